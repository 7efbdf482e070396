use Rattle.std.proofs.Common.{◌≡◌, ℕ, List, [], ◌∷◌, ◌++◌, ap, sym, ◌∙◌}
use Rattle.std.specs.Prelude.{codes}
use Rattle.hex.specs.Hex.{encode_lower}
use Rattle.faust_text.specs.Heads.{named_number, title_line, wire_lines}
use Rattle.faust_text.specs.Lines.{ended_text}
use Rattle.faust_text.specs.Tokens.{joined}
use Rattle.faust_text.proofs.LineLaws.{lines_put}
use Rattle.faust_text.proofs.head_text.head_text.Goals as goal

pub returns : goal.returns
returns c =
    let config = c.args.config.now in
    let title = title_line c.args.title c.args.format in
    let wires = wire_lines c.args.format config.wire in
    let clients = named_number (codes "clients") config.clients in
    let key = joined (codes "key" ∷ encode_lower config.key ∷ []) in
    let delta = named_number (codes "delta") config.delta in
    let dummy = named_number (codes "dummy") config.dummy in
    let key_is : joined (codes "key" ∷ encode_lower c.as_slice.result.now ∷ []) ≡ key =
    ap (λ (k : List ℕ). joined (codes "key" ∷ encode_lower k ∷ [])) c.as_slice.ensures in
    let one : c.put_title.new.text ≡ title ++ 10 ∷ [] = c.in_ok-put_title.ensures
    ∙ ap (λ ts. ts ++ (title ++ 10 ∷ [])) c.new-text.ensures in
    let two : c.put_wire.new.text ≡ (title ++ 10 ∷ []) ++ ended_text wires = c.in_ok-put_wire.ensures
    ∙ ap (λ ts. ts ++ ended_text wires) one in
    let three =
    (c.in_ok-put_named.ensures ∙ ap (λ (x : ℕ). c.put_wire.new.text ++ (named_number (codes "clients") x ++ 10 ∷ [])) c.from.ensures)
    ∙ ap (λ ts. ts ++ (clients ++ 10 ∷ [])) two in
    let four = (c.in_ok-put_key.ensures ∙ ap (λ ks. c.put_named.new.text ++ (ks ++ 10 ∷ [])) key_is)
    ∙ ap (λ ts. ts ++ (key ++ 10 ∷ [])) three in
    let five = c.in_ok-put_named-2.ensures ∙ ap (λ ts. ts ++ (delta ++ 10 ∷ [])) four in
    let six = c.in_ok-put_named-3.ensures ∙ ap (λ ts. ts ++ (dummy ++ 10 ∷ [])) five in
    six ∙ lines_put title wires clients key delta dummy

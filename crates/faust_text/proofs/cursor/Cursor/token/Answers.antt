use Rattle.std.proofs.Common.{◌∷◌, sym, ap, ◌∙◌}
use Rattle.std.specs.Option.{option_copied}
use Rattle.faust_text.specs.Tokens.{after_token, tokens_left}
use Rattle.faust_text.proofs.TokenLaws.{tokens_of-first}
use Rattle.faust_text.proofs.cursor.Cursor.token.Goals as goal

pub returns : goal.returns
returns c =
    let rest = c.in_ok-self.field-0.now in
    let token = c.split_token.result.0.now in
    sym c.self.view_is
    ∙ (ap (λ o. tokens_left (option_copied o)) c.in_ok-self.was
    ∙ (tokens_of-first rest
    ∙ (ap (λ t. t ∷ tokens_left (after_token rest)) (sym c.split_token.ensures.token)
    ∙ ap (λ o. token ∷ tokens_left o) (sym c.split_token.ensures.left))))

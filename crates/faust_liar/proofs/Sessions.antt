-- The queue of a session: the replies that were taken out, and behind them those that wait.
use Rattle.std.proofs.Common.{◌≡◌, ℕ, ◌+◌, ◌-◌, ◌≤◌, zero, suc, arith, rules, IsNone, IsSome, None, option_map, Bor, List, [], ◌∷◌, ◌++◌, length, drop, Option, Some, slice_get, refl, sym, ap, subst, ◌∙◌, length-append}
use Rattle.std.proofs.lemmas.List.{append_assoc}
use Rattle.std.proofs.lemmas.Option.{none-some, same_Some, slice_get_past, slice_get_read}
use Rattle.std.specs.Slice.{IsItemAt}
use Rattle.faust_types.specs.declared.message.Reply.{Reply}
use Rattle.faust_types.specs.declared.message.Message.{Message}
use Rattle.faust_server.specs.Rows.{State}
use Rattle.faust_liar.specs.Branches.{handled}
use Rattle.faust_liar.specs.Lies.{next_of, nth, queued, received}
use Rattle.faust_liar.specs.declared.session.Session.{Session}

queue-next : {X : Type 0} (gone more : List X) → slice_get (gone ++ more) (length gone) ≡ slice_get more 0
queue-next [] more = refl
queue-next (x ∷ gone) more = queue-next gone more

-- the first of those that wait goes over to the others
first-first : {X : Type 0} (more rest : List X) (x : X) → slice_get more 0 ≡ Some x → rest ≡ drop 1 more → x ∷ rest ≡ more
first-first [] rest x is left = absurd (none-some x is)
first-first (y ∷ more) rest x is left =
    ap (λ z. z ∷ rest) (sym (same_Some y x is)) ∙ ap (λ zs. y ∷ zs) left

queue-moved : {X : Type 0} (gone more rest : List X) (x : X) → slice_get (gone ++ more) (length gone) ≡ Some x → rest ≡ drop 1 more
    → (gone ++ x ∷ []) ++ rest ≡ gone ++ more
queue-moved {X} gone more rest x next left =
    append_assoc gone (x ∷ []) rest
    ∙ ap (λ (zs : List X). gone ++ zs) (first-first more rest x (sym (queue-next gone more) ∙ next) left)

abbrev pub session_of : ℕ → List Message → List Message → List Message → Session
session_of route arrived gone more = record { route = route; arrived = arrived; replies = gone ++ more; taken = length gone }

pub session-moved : (route : ℕ) (arrived gone more now_gone rest : List Message) (x : Message) (now : Session)
    → session_of route arrived gone more ≡ now → next_of now ≡ Some x → now_gone ≡ gone ++ x ∷ [] → rest ≡ drop 1 more
    → session_of route arrived now_gone rest ≡ record now { taken = now.taken + 1 }
session-moved route arrived gone more now_gone rest x now view next pushed left =
    let Next : Session → Type 0 = λ z. next_of z ≡ Some x in
    ap (λ (xs : List Message). session_of route arrived xs rest) pushed
    ∙ ap (λ (xs : List Message). record { route = route; arrived = arrived; replies = xs; taken = length (gone ++ x ∷ []) })
    (queue-moved gone more rest x (subst Next (sym view) next) left)
    ∙ ap (λ (t : ℕ). record { route = route; arrived = arrived; replies = gone ++ more; taken = t }) (length-append gone (x ∷ []))
    ∙ ap (λ (z : Session). record z { taken = z.taken + 1 }) view

-- a message that arrives is put at the end, and so is the reply, where there is one
pub session-received : (route : ℕ) (arrived now_arrived gone more now_more : List Message) (m read : Message) (i : ℕ) (branch : State)
    (now : Session) → session_of route arrived gone more ≡ now → read ≡ m → now_arrived ≡ arrived ++ m ∷ []
    → now_more ≡ more ++ queued (handled branch i read).reply
    → session_of route now_arrived gone now_more ≡ received now m (handled branch i m).reply
session-received route arrived now_arrived gone more now_more m read i branch now view same pushed queue =
    let reply : Option Reply = (handled branch i m).reply in
    ap (λ (xs : List Message). session_of route xs gone now_more) pushed
    ∙ ap (λ (ys : List Message). session_of route (arrived ++ m ∷ []) gone ys)
    (queue ∙ ap (λ (z : Message). more ++ queued (handled branch i z).reply) same)
    ∙ ap (λ (zs : List Message). record { route = route; arrived = arrived ++ m ∷ []; replies = zs; taken = length gone })
    (sym (append_assoc gone more (queued reply)))
    ∙ ap (λ (z : Session). received z m reply) view

-- the reply with a number is one that was taken out, or one that waits
queue-front : (gone more : List Message) (k : ℕ) (x : Message) → slice_get gone k ≡ Some x → slice_get (gone ++ more) k ≡ Some x
queue-front [] more k x is = absurd (none-some x is)
queue-front (y ∷ gone) more zero x is = is
queue-front (y ∷ gone) more (suc k) x is = queue-front gone more k x is

queue-back : (gone more : List Message) (k : ℕ) → length gone ≤ k → slice_get (gone ++ more) k ≡ slice_get more (k - length gone)
queue-back [] more k past = ap (λ (j : ℕ). slice_get more j) (omega arith)
queue-back (y ∷ gone) more zero past = absurd (omega (arith, past))
queue-back (y ∷ gone) more (suc k) past =
    queue-back gone more k (omega (arith, past)) ∙ ap (λ (j : ℕ). slice_get more j) (omega arith)

nth-at : (k place : ℕ) (xs : List Message) → k ≡ place + 1 → nth k xs ≡ slice_get xs place
nth-at k place xs is = search rules

pub handed-at : (route : ℕ) (arrived gone more : List Message) (now : Session) (k place : ℕ) (x : Message)
    → session_of route arrived gone more ≡ now → k ≡ place + 1 → slice_get gone place ≡ Some x → nth k now.replies ≡ Some x
handed-at route arrived gone more now k place x view number found =
    ap (λ (z : Session). nth k z.replies) (sym view) ∙ nth-at k place (gone ++ more) number ∙ queue-front gone more place x found

pub waiting-at : (route : ℕ) (arrived gone more : List Message) (now : Session) (k place : ℕ) (o : Option Message)
    → session_of route arrived gone more ≡ now → k ≡ place + 1 → length gone ≤ place → slice_get more (place - length gone) ≡ o
    → nth k now.replies ≡ o
waiting-at route arrived gone more now k place o view number past found =
    ap (λ (z : Session). nth k z.replies) (sym view) ∙ nth-at k place (gone ++ more) number ∙ queue-back gone more place past ∙ found

-- what a look-up gives
pub item-there : (xs : List Message) (i : ℕ) (x : Bor Message) → IsItemAt xs i (Some x) → slice_get xs i ≡ Some x.now
item-there xs i x h = slice_get_read xs (length xs) i x.now refl h.3.0 h.1

pub item-absent : (xs : List Message) (i : ℕ) → IsItemAt xs i None → slice_get xs i ≡ None
item-absent xs i h = slice_get_past xs i h.3

-- what is due of it
pub text-due : (o : Option Message) (text : Message → List ℕ) (m : Message) (bytes : List ℕ) → o ≡ Some m → bytes ≡ text m
    → option_map text o ≡ Some bytes
text-due o text m bytes is spelled =
    ap (λ (z : Option Message). option_map text z) is ∙ ap (λ (z : List ℕ). Some z) (sym spelled)

pub some-due : (o : Option Message) (text : Message → List ℕ) (m : Message) → o ≡ Some m → IsSome (option_map text o)
some-due o text m is = let There : Option Message → Type 0 = λ z. IsSome (option_map text z) in subst There (sym is) refl

pub none-due : (o : Option Message) (text : Message → List ℕ) → o ≡ None → IsNone (option_map text o)
none-due o text is = let Absent : Option Message → Type 0 = λ z. IsNone (option_map text z) in subst Absent (sym is) refl

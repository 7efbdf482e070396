-- The version of the register's client that comes with a read.
use Rattle.std.proofs.Common.{◌≡◌, ◌⊎◌, ℕ, true, false, List, Option, Some, None, IfSome, sym, ◌∙◌, subst, inl, inr}
use Rattle.std.proofs.lemmas.Bool.{cases_Bool, eqb-true}
use Rattle.faust_types.specs.Ranges.{IsReadPartFor}
use Rattle.faust_types.specs.Versions.{IsAtMost, Vector, is_initial}
use Rattle.faust_types.specs.declared.message.Known.{Known}
use Rattle.faust_types.specs.declared.message.ReadPart.{ReadPart}
use Rattle.faust_types.specs.declared.message.Reply.{Reply}
use Rattle.faust_types.specs.declared.operation.Kind.{Kind}
use Rattle.faust_types.specs.declared.operation.Kind.TheVariants.{Read, Write}
use Rattle.faust_types.specs.declared.operation.Operation.{Operation}
use Rattle.faust_ustor.specs.Checks.{begun, is_part_for}
use Rattle.faust_ustor.specs.Passed.{IsPartPassed, next_of, told, told_of}
use Rattle.faust_forks.specs.Books.{Done}
use Rattle.faust_forks.specs.Forks.{IsAccepted, IsBooked, IsGround}
use Rattle.faust_forks.specs.Pairs.{AreMade, known_pairs, mem_pairs, read_pairs, tuple_pairs}
use Rattle.faust_forks.specs.Pasts.{Past}
use Rattle.faust_forks.specs.Sources.{Source}
use Rattle.faust_forks.proofs.Booked.{known-booked}
use Rattle.faust_forks.proofs.Made.{AreMade-left, AreMade-right, behind-pairs}
use Rattle.faust_held.specs.Given.{IsBookedFor, IsGiven, by_completion}

-- A version of client j is that of one of its completions, and at most that of the reply.
pub record IsShownOf (book : List Done) (j : ℕ) (version : Vector) (known : Known) : Type 0 where
  pub booked : IsBooked book j known.version
  pub maker : is_initial known.version ≡ false → known.maker ≡ j
  pub below : IsAtMost known.version version

-- so it is booked for its maker, and client j gave it away
pub shown-booked : (book : List Done) (j : ℕ) (version : Vector) (known : Known) → IsShownOf book j version known
    → IsBookedFor book known
shown-booked book j version known h = elim (cases_Bool (is_initial known.version)) [
  | inl is ↦ inl is
  | inr fresh ↦ subst (λ (k : ℕ). IsBooked book k known.version) (sym (h.maker fresh)) h.booked
]

given-by : (book : List Done) (made : List Source) (j : ℕ) (known : Known) → known.maker ≡ j → IsBooked book j known.version
    → (is_initial known.version ≡ true) ⊎ IsGiven book made j known
given-by book made j known maker (inl is) = inl is
given-by book made j known maker (inr came) = inr (by_completion maker came)

pub shown-given : (book : List Done) (made : List Source) (j : ℕ) (version : Vector) (known : Known) → IsShownOf book j version known
    → (is_initial known.version ≡ true) ⊎ IsGiven book made j known
shown-given book made j version known h = elim (cases_Bool (is_initial known.version)) [
  | inl is ↦ inl is
  | inr fresh ↦ given-by book made j known (h.maker fresh) h.booked
]

part-register : (kind : Kind) (register : ℕ) (part : ReadPart) → is_part_for kind register (Some part) ≡ true → part.register ≡ register
part-register Write register part fits = absurd (cc)
part-register Read register part fits = eqb-true part.register register fits

part-shown : (n : ℕ) (past : Past) (key : List ℕ) (version next : Vector) (kind : Kind) (register : ℕ) (read : Option ReadPart)
    (known : Known)
    → IsGround n past → IfSome read (IsReadPartFor n) → IfSome read (IsPartPassed key version next)
    → AreMade key past.made (read_pairs read) → is_part_for kind register read ≡ true → (told_of next read).heard ≡ Some known
    → IsShownOf past.book register version known
part-shown n past key version next kind register None known ground range passed pairs fits is = absurd (cc)
part-shown n past key version next kind register (Some part) known ground range passed pairs fits is =
    let same : part.register ≡ register = part-register kind register part fits in
    let there : IsBooked past.book part.register part.version.version =
    known-booked n past key part.register part.version ground range.version_known passed.known_right
    (AreMade-left key past.made (known_pairs part.register part.version) (mem_pairs part.register part.mem) pairs) in
    let is_known : part.version ≡ known = cc in
    subst (λ (k : Known). IsShownOf past.book register version k) is_known (record {
      booked = subst (λ (j : ℕ). IsBooked past.book j part.version.version) same there;
      maker = λ fresh. range.version_known.signed fresh ∙ same;
      below = passed.at_most;
    })

pub read-shown : (n : ℕ) (past : Past) (key : List ℕ) (me : ℕ) (own : Vector) (op : Operation) (reply : Reply) (known : Known)
    → IsGround n past → IsAccepted n past key me own op reply → (told me reply).heard ≡ Some known
    → IsShownOf past.book op.register reply.version.version known
read-shown n past key me own op reply known ground accepted is =
    let walk = begun reply in
    let behind = read_pairs reply.read in
    let pairs : AreMade key past.made behind =
    behind-pairs key past.made me reply.proofs behind walk reply.pending accepted.passed.tuples_passed
    (AreMade-right key past.made (known_pairs reply.c reply.version) (tuple_pairs reply.proofs behind walk reply.pending)
    accepted.unforged) in
    part-shown n past key reply.version.version (next_of me reply) op.kind op.register reply.read known ground
    accepted.reply_in_range.read_in_range accepted.passed.part_passed pairs accepted.passed.part_fits is

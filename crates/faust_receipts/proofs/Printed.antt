-- The line of a completed operation tells all of it.
use Rattle.std.proofs.Common.{◌≡◌, ◌≢◌, ℕ, ◌^◌, ◌<◌, ◌==◌, suc, Bool, true, false, cond, List, [], ◌∷◌, ◌++◌, length, get_or, Option, Some, None, IfSome, codes, refl, sym, ap, ◌∙◌, subst, arith, append_assoc}
use Rattle.std.specs.Fmt.{decimal}
use Rattle.std.specs.List.{list_all}
use Rattle.std.proofs.lemmas.Bool.{both_ways, eq-eqb, ne_eqb}
use Rattle.faust_types.specs.Ranges.{IsValue}
use Rattle.faust_types.specs.declared.operation.Kind.{Kind}
use Rattle.faust_types.specs.declared.operation.Kind.TheVariants.{Write, Read}
use Rattle.faust_types.specs.declared.operation.Answer.{Answer}
use Rattle.faust_types.specs.declared.operation.OpName.{OpName}
use Rattle.faust_text.specs.Lines.{IsWithout}
use Rattle.faust_text.specs.Values.{is_plain, value_of, value_text}
use Rattle.faust_text.specs.Numbers.{number_of}
use Rattle.hex.specs.Hex.{encode_lower}
use Rattle.faust_text.proofs.NumberLaws.{digits_at, is_number-decimal, number_of-decimal}
use Rattle.faust_text.proofs.ValueLaws.{printed_again}
use Rattle.faust_report.specs.Text.{answer_text, done_line, name_text, register_text}
use Rattle.faust_node.specs.Answers.{IsPlain, IsUserAnswer}
use Rattle.faust_receipts.specs.Receipts.{IsPrintable}

-- bytes without a byte
without_by_places : (b : ℕ) (xs : List ℕ) → ((i : ℕ) → i < length xs → get_or xs i 0 ≢ b) → IsWithout b xs
without_by_places b [] away = tt
without_by_places b (x ∷ xs) away =
    (ne_eqb x b (away 0 (omega arith)), without_by_places b xs (λ i below. away (suc i) (omega (arith, below))))

number-without : (b x : ℕ) → b < 48 → x < 2 ^ 64 → IsWithout b (decimal x)
number-without b x below fits =
    without_by_places b (decimal x)
    (λ i within same. let at = digits_at (decimal x) i (is_number-decimal x fits) within in omega (arith, at.0, same, below))

without-append : (b : ℕ) (xs ys : List ℕ) → IsWithout b xs → IsWithout b ys → IsWithout b (xs ++ ys)
without-append b [] ys first rest = rest
without-append b (x ∷ xs) ys first rest = (first.0, without-append b xs ys first.1 rest)

not-within : (b : ℕ) (xs ys : List ℕ) → IsWithout b (xs ++ b ∷ ys) → ⊥
not-within b [] ys h = both_ways (b == b) h.0 (eq-eqb b b refl)
not-within b (x ∷ xs) ys h = not-within b xs ys h.1

head-one : (a b : ℕ) (x y : List ℕ) → ◌≡◌ {A = List ℕ} (a ∷ x) (b ∷ y) → a ≡ b
head-one a b x y h = cc

tail-one : (a b : ℕ) (x y : List ℕ) → ◌≡◌ {A = List ℕ} (a ∷ x) (b ∷ y) → x ≡ y
tail-one a b x y h = cc

-- the first of a byte parts a text in one way, and so does the last
record AreBoth (a b x y : List ℕ) : Type 0 where
  front : a ≡ b
  rest : x ≡ y

front-one : (s : ℕ) (a b x y : List ℕ) → IsWithout s a → IsWithout s b → a ++ s ∷ x ≡ b ++ s ∷ y → AreBoth a b x y
front-one s [] [] x y one other h = record { front = refl; rest = tail-one s s x y h }
front-one s [] (c ∷ b) x y one other h =
    absurd (both_ways (c == s) other.0 (eq-eqb c s (sym (head-one s c x (b ++ s ∷ y) h))))
front-one s (c ∷ a) [] x y one other h = absurd (both_ways (c == s) one.0 (eq-eqb c s (head-one c s (a ++ s ∷ x) y h)))
front-one s (c ∷ a) (d ∷ b) x y one other h =
    let both = front-one s a b x y one.1 other.1 (tail-one c d (a ++ s ∷ x) (b ++ s ∷ y) h) in
    record {
      front = ap (λ (e : ℕ). e ∷ a) (head-one c d (a ++ s ∷ x) (b ++ s ∷ y) h) ∙ ap (λ (l : List ℕ). d ∷ l) both.front;
      rest = both.rest;
    }

back-one : (s : ℕ) (a b x y : List ℕ) → IsWithout s x → IsWithout s y → a ++ s ∷ x ≡ b ++ s ∷ y → AreBoth a b x y
back-one s [] [] x y one other h = record { front = refl; rest = tail-one s s x y h }
back-one s [] (c ∷ b) x y one other h =
    absurd (not-within s b y (subst (IsWithout s) (tail-one s c x (b ++ s ∷ y) h) one))
back-one s (c ∷ a) [] x y one other h =
    absurd (not-within s a x (subst (IsWithout s) (sym (tail-one c s (a ++ s ∷ x) y h)) other))
back-one s (c ∷ a) (d ∷ b) x y one other h =
    let both = back-one s a b x y one other (tail-one c d (a ++ s ∷ x) (b ++ s ∷ y) h) in
    record {
      front = ap (λ (e : ℕ). e ∷ a) (head-one c d (a ++ s ∷ x) (b ++ s ∷ y) h) ∙ ap (λ (l : List ℕ). d ∷ l) both.front;
      rest = both.rest;
    }

-- a number, a name, a register and a value have one text each
some-number : (x y : ℕ) → (let left : Option ℕ = Some x in left ≡ Some y) → x ≡ y
some-number x y h = cc

number-one : (x y : ℕ) → x < 2 ^ 64 → y < 2 ^ 64 → decimal x ≡ decimal y → x ≡ y
number-one x y one other h =
    some-number x y (sym (number_of-decimal x one) ∙ ap number_of h ∙ number_of-decimal y other)

name-one : (a b : OpName) → a.client < 2 ^ 64 → a.t < 2 ^ 64 → b.client < 2 ^ 64 → b.t < 2 ^ 64 → name_text a ≡ name_text b → a ≡ b
name-one a b one two three four h =
    let both = front-one 46 (decimal a.client) (decimal b.client) (decimal a.t) (decimal b.t)
    (number-without 46 a.client (omega arith) one) (number-without 46 b.client (omega arith) three) h in
    ap (λ (c : ℕ). record { client = c; t = a.t }) (number-one a.client b.client one three both.front)
    ∙ ap (λ (t : ℕ). record { client = b.client; t = t }) (number-one a.t b.t two four both.rest)

register-one : (x y : ℕ) → x < 2 ^ 64 → y < 2 ^ 64 → register_text x ≡ register_text y → x ≡ y
register-one x y one other h = number-one x y one other (tail-one 88 88 (decimal x) (decimal y) h)

some-value : (v w : List ℕ) → (let left : Option (List ℕ) = Some v in left ≡ Some w) → v ≡ w
some-value v w h = cc

heads-differ : (a b : ℕ) (x y : List ℕ) → (a == b) ≡ false → ◌≡◌ {A = List ℕ} (a ∷ x) (b ∷ y) → ⊥
heads-differ a b x y differ h = both_ways (a == b) differ (eq-eqb a b (head-one a b x y h))

not-printed-none : (quoted digits : List ℕ) (plain : Bool)
    → ◌≡◌ {A = List ℕ} (110 ∷ 111 ∷ 110 ∷ 101 ∷ []) (cond plain (34 ∷ quoted) (48 ∷ digits)) → ⊥
not-printed-none quoted digits true h = heads-differ 110 34 _ quoted refl h
not-printed-none quoted digits false h = heads-differ 110 48 _ digits refl h

value-one : (v w : Option (List ℕ)) → IfSome v IsValue → IfSome w IsValue → value_text v ≡ value_text w → v ≡ w
value-one None None one other h = refl
value-one None (Some w) one other h = absurd (not-printed-none (w ++ 34 ∷ []) (120 ∷ encode_lower w) (list_all is_plain w) h)
value-one (Some v) None one other h = absurd (not-printed-none (v ++ 34 ∷ []) (120 ∷ encode_lower v) (list_all is_plain v) (sym h))
value-one (Some v) (Some w) one other h =
    sym (printed_again 4096 v one.bytes_each one.sized) ∙ ap (value_of 4096) h ∙ printed_again 4096 w other.bytes_each other.sized

-- what a user is told has one text
answer-ext : (a b : Answer) → a.op.name ≡ b.op.name → a.op.kind ≡ b.op.kind → a.op.register ≡ b.op.register → a.op.dummy ≡ b.op.dummy
    → a.value ≡ b.value → a.asof ≡ b.asof → a ≡ b
answer-ext a b name kind register dummy value asof =
    ap (λ (x : OpName). record a { op = record a.op { name = x } }) name
    ∙ ap (λ (x : Kind). record {
      op = record { name = b.op.name; kind = x; register = a.op.register; dummy = a.op.dummy };
      value = a.value;
      asof = a.asof;
    }) kind
    ∙ ap (λ (x : ℕ). record {
      op = record { name = b.op.name; kind = b.op.kind; register = x; dummy = a.op.dummy };
      value = a.value;
      asof = a.asof;
    }) register
    ∙ ap (λ (x : Bool). record {
      op = record { name = b.op.name; kind = b.op.kind; register = b.op.register; dummy = x };
      value = a.value;
      asof = a.asof;
    }) dummy
    ∙ ap (λ (x : Option (List ℕ)). record { op = b.op; value = x; asof = a.asof }) value
    ∙ ap (λ (x : ℕ). record { op = b.op; value = b.value; asof = x }) asof

-- What two answers with one text have in common.
record IsSameBut (a b : Answer) : Type 0 where
  same_kind : a.op.kind ≡ b.op.kind
  same_register : a.op.register ≡ b.op.register
  same_value : a.value ≡ b.value
  same_asof : a.asof ≡ b.asof

without-word : IsWithout 32 (codes "write") × IsWithout 32 (codes "read") × IsWithout 32 (codes "asof")
without-word = ((refl, (refl, (refl, (refl, (refl, tt))))), (refl, (refl, (refl, (refl, tt)))), (refl, (refl, (refl, (refl, tt)))))

words-differ : codes "write" ≡ codes "read" → ⊥
words-differ h = cc

register-without : (x : ℕ) → x < 2 ^ 64 → IsWithout 32 (register_text x)
register-without x fits = (refl, number-without 32 x (omega arith) fits)

abbrev asof_text : ℕ → List ℕ
asof_text asof = codes "asof" ++ (32 ∷ decimal asof)

kinds-one : (a b : Answer) (kind other : Kind) → a.op.kind ≡ kind → b.op.kind ≡ other → IsPlain a → IsPlain b
    → (n m : ℕ) → IsPrintable n a → IsPrintable m b → answer_text kind a ≡ answer_text other b → IsSameBut a b
kinds-one a b Write Write is also one two n m fits fits_too h =
    let both = front-one 32 (codes "write") (codes "write") (register_text a.op.register) (register_text b.op.register)
    without-word.0 without-word.0 h in
    record {
      same_kind = is ∙ sym also;
      same_register = register-one a.op.register b.op.register fits.register_fits fits_too.register_fits both.rest;
      same_value = (one is).no_value ∙ sym (two also).no_value;
      same_asof = (one is).no_asof ∙ sym (two also).no_asof;
    }
kinds-one a b Write Read is also one two n m fits fits_too h =
    absurd (words-differ (front-one 32 (codes "write") (codes "read") (register_text a.op.register)
    (register_text b.op.register ++ (32 ∷ (value_text b.value ++ (32 ∷ asof_text b.asof)))) without-word.0 without-word.1 h).front)
kinds-one a b Read Write is also one two n m fits fits_too h =
    absurd (words-differ (front-one 32 (codes "write") (codes "read") (register_text b.op.register)
    (register_text a.op.register ++ (32 ∷ (value_text a.value ++ (32 ∷ asof_text a.asof)))) without-word.0 without-word.1 (sym h)).front)
kinds-one a b Read Read is also one two n m fits fits_too h =
    let kept = front-one 32 (codes "read") (codes "read")
    (register_text a.op.register ++ (32 ∷ (value_text a.value ++ (32 ∷ asof_text a.asof))))
    (register_text b.op.register ++ (32 ∷ (value_text b.value ++ (32 ∷ asof_text b.asof)))) without-word.1 without-word.1 h in
    let more = front-one 32 (register_text a.op.register) (register_text b.op.register)
    (value_text a.value ++ (32 ∷ asof_text a.asof)) (value_text b.value ++ (32 ∷ asof_text b.asof))
    (register-without a.op.register fits.register_fits) (register-without b.op.register fits_too.register_fits) kept.rest in
    let grouped : (value_text a.value ++ (32 ∷ codes "asof")) ++ (32 ∷ decimal a.asof)
    ≡ (value_text b.value ++ (32 ∷ codes "asof")) ++ (32 ∷ decimal b.asof) =
    append_assoc (value_text a.value) (32 ∷ codes "asof") (32 ∷ decimal a.asof) ∙ more.rest
    ∙ sym (append_assoc (value_text b.value) (32 ∷ codes "asof") (32 ∷ decimal b.asof)) in
    let last = back-one 32 (value_text a.value ++ (32 ∷ codes "asof")) (value_text b.value ++ (32 ∷ codes "asof")) (decimal a.asof)
    (decimal b.asof) (number-without 32 a.asof (omega arith) fits.asof_fits) (number-without 32 b.asof (omega arith) fits_too.asof_fits)
    grouped in
    let value = back-one 32 (value_text a.value) (value_text b.value) (codes "asof")
    (codes "asof") without-word.2 without-word.2 last.front in
    record {
      same_kind = is ∙ sym also;
      same_register = register-one a.op.register b.op.register fits.register_fits fits_too.register_fits more.front;
      same_value = value-one a.value b.value fits.value_fits fits_too.value_fits value.front;
      same_asof = number-one a.asof b.asof fits.asof_fits fits_too.asof_fits last.rest;
    }

name-without : (name : OpName) → name.client < 2 ^ 64 → name.t < 2 ^ 64 → IsWithout 32 (name_text name)
name-without name one two =
    without-append 32 (decimal name.client) (codes "." ++ decimal name.t) (number-without 32 name.client (omega arith) one)
    (refl, number-without 32 name.t (omega arith) two)

without-done : IsWithout 32 (codes "done")
without-done = (refl, (refl, (refl, (refl, tt))))

pub record IsOneLine (n m : ℕ) (a b : Answer) : Type 0 where
  pub same_number : n ≡ m
  pub same_answer : a ≡ b

pub done-line-one : (n m : ℕ) (a b : Answer) → IsUserAnswer a → IsUserAnswer b → IsPrintable n a → IsPrintable m b
    → done_line n a ≡ done_line m b → IsOneLine n m a b
done-line-one n m a b one two fits fits_too h =
    let first = front-one 32 (decimal n) (decimal m)
    (codes "done" ++ (32 ∷ (name_text a.op.name ++ (32 ∷ answer_text a.op.kind a))))
    (codes "done" ++ (32 ∷ (name_text b.op.name ++ (32 ∷ answer_text b.op.kind b))))
    (number-without 32 n (omega arith) fits.number_fits) (number-without 32 m (omega arith) fits_too.number_fits) h in
    let second = front-one 32 (codes "done") (codes "done") (name_text a.op.name ++ (32 ∷ answer_text a.op.kind a))
    (name_text b.op.name ++ (32 ∷ answer_text b.op.kind b)) without-done without-done first.rest in
    let third = front-one 32 (name_text a.op.name) (name_text b.op.name) (answer_text a.op.kind a) (answer_text b.op.kind b)
    (name-without a.op.name fits.client_fits fits.t_fits) (name-without b.op.name fits_too.client_fits fits_too.t_fits) second.rest in
    let rest = kinds-one a b a.op.kind b.op.kind refl refl one.plain two.plain n m fits fits_too third.rest in
    record {
      same_number = number-one n m fits.number_fits fits_too.number_fits first.front;
      same_answer = answer-ext a b
          (name-one a.op.name b.op.name fits.client_fits fits.t_fits fits_too.client_fits fits_too.t_fits third.front)
          rest.same_kind rest.same_register (one.asked ∙ sym two.asked) rest.same_value rest.same_asof;
    }

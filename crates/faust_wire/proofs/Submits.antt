-- The readers of COMMIT and SUBMIT, and of the COMMIT that rides on a SUBMIT.
use Rattle.std.proofs.Common.{◌≡◌, ℕ, Bool, true, false, cond, List, [], ◌∷◌, ◌++◌, Option, Some, None, refl, sym, ap, subst, ◌∙◌, append_assoc, inl, inr}
use Rattle.std.specs.Prelude.{IsNone, IfSome, ◌==◌}
use Rattle.std.proofs.lemmas.Bool.{cases_Bool, true≢false, eqb-true, eqb-false}
use Rattle.std.proofs.lemmas.Option.{same_Some}
use Rattle.faust_types.specs.Clients.{IsClientCount}
use Rattle.faust_types.specs.Ranges.{AreBytes, IsValueOf, IsSubmitFor, IsCommitFor}
use Rattle.faust_types.specs.Spelling.{be64, version_bytes, kind_byte}
use Rattle.faust_types.specs.declared.operation.Kind.{Kind}
use Rattle.faust_types.specs.declared.operation.Kind.TheVariants.{Write, Read}
use Rattle.faust_types.specs.declared.message.Submit.{Submit}
use Rattle.faust_types.specs.declared.message.Commit.{Commit}
use Rattle.faust_wire.specs.Grammar.{written_bytes, commit_content, optional_commit_bytes, riding_bytes}
use Rattle.faust_wire.specs.Reading.{next_kind, next_up_to, next_number, next_tag, next_value, next_written, next_version, next_commit, next_riding, next_submit, optionally}
use Rattle.faust_wire.proofs.Readers.{bind_ok, bind_some, unless_ok, chosen, takes_then, IsRead, IsReader, optionally_reader}
use Rattle.faust_wire.proofs.SmallParts.{tag_reader, client_reader, kind_reader, number_reader, value_reader}
use Rattle.faust_wire.proofs.Entries.{version_reader}

-- ---- the value of a write

written_takes : (kind : Kind) (bytes : List ℕ) (x : Option (List ℕ) × List ℕ) → AreBytes bytes → next_written kind bytes ≡ Some x
    → IsRead (Option (List ℕ)) written_bytes (IsValueOf kind) bytes x
written_takes Write bytes x fits e =
    bind_ok (next_value bytes) _ x e (λ a a-is a-then.
    let r = value_reader.takes bytes a fits a-is in
    subst (IsRead (Option (List ℕ)) written_bytes (IsValueOf Write) bytes) (same_Some _ _ a-then)
    (record { taken = r.taken; fits = r.fits }))
written_takes Read bytes x fits e =
    subst (IsRead (Option (List ℕ)) written_bytes (IsValueOf Read) bytes) (same_Some _ _ e)
    (record { taken = record { parts = refl; rest_bytes = fits }; fits = refl })

written_again : (kind : Kind) (value : Option (List ℕ)) (rest : List ℕ) → IsValueOf kind value
    → next_written kind (written_bytes value ++ rest) ≡ Some (value, rest)
written_again Write (Some bytes) rest fits = bind_some _ _ _ _ (value_reader.again bytes rest fits) refl
written_again Write None rest fits = absurd fits
written_again Read None rest fits = refl
written_again Read (Some bytes) rest fits = absurd (true≢false fits)

written_reader : (kind : Kind) → IsReader (Option (List ℕ)) (next_written kind) written_bytes (IsValueOf kind)
written_reader kind = record { takes = written_takes kind; again = written_again kind }

-- ---- COMMIT

commit_takes : (n : ℕ) → IsClientCount n → (bytes : List ℕ) (x : Commit × List ℕ) → AreBytes bytes → next_commit n bytes ≡ Some x
    → IsRead Commit commit_content (IsCommitFor n) bytes x
unfolding next_commit
commit_takes n count bytes x fits e =
    bind_ok (next_version n bytes) _ x e (λ a a-is a-then.
    let version = (version_reader n count).takes bytes a fits a-is in
    bind_ok (next_tag a.1) _ x a-then (λ b b-is b-then.
    let commit_tag = tag_reader.takes a.1 b version.taken.rest_bytes b-is in
    bind_ok (next_tag b.1) _ x b-then (λ d d-is d-then.
    let proof_tag = tag_reader.takes b.1 d commit_tag.taken.rest_bytes d-is in
    let g = unless_ok _ _ _ d-then in
    subst (IsRead Commit commit_content (IsCommitFor n) bytes) (same_Some _ _ g.1) (record {
      taken = takes_then (takes_then version.taken commit_tag.taken) proof_tag.taken;
      fits = record {
        version_in_range = version.fits;
        not_initial = g.0;
        commit_tag_sized = commit_tag.fits;
        proof_tag_sized = proof_tag.fits;
      };
    }))))

commit_again : (n : ℕ) → IsClientCount n → (m : Commit) (rest : List ℕ) → IsCommitFor n m
    → next_commit n (commit_content m ++ rest) ≡ Some (m, rest)
unfolding next_commit
commit_again n count m rest fits =
    let regrouped : commit_content m ++ rest ≡ version_bytes m.version ++ (m.commit_tag ++ (m.proof_tag ++ rest)) = simp append_assoc in
    ap (next_commit n) regrouped
    ∙ bind_some _ _ _ _ ((version_reader n count).again m.version _ fits.version_in_range)
    (bind_some _ _ _ _ (tag_reader.again m.commit_tag _ fits.commit_tag_sized)
    (bind_some _ _ _ _ (tag_reader.again m.proof_tag rest fits.proof_tag_sized) (rw fits.not_initial refl)))

pub commit_reader : (n : ℕ) → IsClientCount n → IsReader Commit (next_commit n) commit_content (IsCommitFor n)
commit_reader n count = record { takes = commit_takes n count; again = commit_again n count }

-- ---- the riding COMMIT

-- under wire 1 none, else one in range or none
pub record IsRiding (wire n : ℕ) (commit : Option Commit) : Type 0 where
  pub none_under_1 : wire ≡ 1 → IsNone commit
  pub in_range : IfSome commit (IsCommitFor n)

optional_commit_reader : (n : ℕ) → IsClientCount n
    → IsReader (Option Commit) (λ bytes. optionally (next_commit n) bytes) optional_commit_bytes (λ o. IfSome o (IsCommitFor n))
optional_commit_reader n count =
    optionally_reader (next_commit n) commit_content (IsCommitFor n) optional_commit_bytes (commit_reader n count) refl (λ x. refl)

-- the text under wire 1, and under another
riding-first : (wire : ℕ) (commit : Option Commit) → (wire == 1) ≡ true → riding_bytes wire commit ≡ []
riding-first wire commit first = ap (λ (b : Bool). cond b [] (optional_commit_bytes commit)) first

riding-later : (wire : ℕ) (commit : Option Commit) → (wire == 1) ≡ false → riding_bytes wire commit ≡ optional_commit_bytes commit
riding-later wire commit later = ap (λ (b : Bool). cond b [] (optional_commit_bytes commit)) later

none_only : (commit : Option Commit) → IsNone commit → commit ≡ None
none_only None none = refl
none_only (Some commit) none = absurd (true≢false none)

riding_takes : (wire n : ℕ) → IsClientCount n → (bytes : List ℕ) (x : Option Commit × List ℕ) → AreBytes bytes
    → next_riding wire n bytes ≡ Some x → IsRead (Option Commit) (riding_bytes wire) (IsRiding wire n) bytes x
riding_takes wire n count bytes x fits e =
    elim (chosen (wire == 1) _ _ _ e) [
      | inl w ↦
          subst (IsRead (Option Commit) (riding_bytes wire) (IsRiding wire n) bytes) (same_Some _ _ w.1) (record {
            taken = record { parts = ap (λ (t : List ℕ). t ++ bytes) (sym (riding-first wire None w.0)); rest_bytes = fits };
            fits = record { none_under_1 = λ is. refl; in_range = tt };
          })
      | inr w ↦
          let r = (optional_commit_reader n count).takes bytes x fits w.1 in
          record {
            taken = record {
              parts = r.taken.parts ∙ ap (λ (t : List ℕ). t ++ x.1) (sym (riding-later wire x.0 w.0));
              rest_bytes = r.taken.rest_bytes;
            };
            fits = record { none_under_1 = λ is. absurd (eqb-false wire 1 w.0 is); in_range = r.fits };
          }
    ]

riding_again : (wire n : ℕ) → IsClientCount n → (commit : Option Commit) (rest : List ℕ) → IsRiding wire n commit
    → next_riding wire n (riding_bytes wire commit ++ rest) ≡ Some (commit, rest)
riding_again wire n count commit rest fits =
    elim (cases_Bool (wire == 1)) [
      | inl first ↦
          let none = none_only commit (fits.none_under_1 (eqb-true wire 1 first)) in
          rw (first, none) refl
      | inr later ↦ rw later ((optional_commit_reader n count).again commit rest fits.in_range)
    ]

riding_reader : (wire n : ℕ) → IsClientCount n
    → IsReader (Option Commit) (next_riding wire n) (riding_bytes wire) (IsRiding wire n)
riding_reader wire n count = record { takes = riding_takes wire n count; again = riding_again wire n count }

-- ---- SUBMIT

-- in range, and under wire 1 without a COMMIT
pub record IsSubmitUnder (wire n : ℕ) (m : Submit) : Type 0 where
  pub in_range : IsSubmitFor n m
  pub none_under_1 : wire ≡ 1 → IsNone m.commit

-- what stands behind the byte that tells the kind
abbrev pub submit_text : ℕ → Submit → List ℕ
submit_text wire m =
    kind_byte m.kind ∷ m.register ∷ (be64 m.t ++ m.submit_tag ++ m.data_tag ++ written_bytes m.value ++ riding_bytes wire m.commit)

submit_takes : (wire n : ℕ) → IsClientCount n → (bytes : List ℕ) (x : Submit × List ℕ) → AreBytes bytes
    → next_submit wire n bytes ≡ Some x → IsRead Submit (submit_text wire) (IsSubmitUnder wire n) bytes x
unfolding next_submit
submit_takes wire n count bytes x fits e =
    bind_ok (next_kind bytes) _ x e (λ a a-is a-then.
    let kind = kind_reader.takes bytes a fits a-is in
    bind_ok (next_up_to n a.1) _ x a-then (λ b b-is b-then.
    let register = (client_reader n).takes a.1 b kind.taken.rest_bytes b-is in
    bind_ok (next_number b.1) _ x b-then (λ c c-is c-then.
    let t = number_reader.takes b.1 c register.taken.rest_bytes c-is in
    bind_ok (next_tag c.1) _ x c-then (λ d d-is d-then.
    let submit_tag = tag_reader.takes c.1 d t.taken.rest_bytes d-is in
    bind_ok (next_tag d.1) _ x d-then (λ f f-is f-then.
    let data_tag = tag_reader.takes d.1 f submit_tag.taken.rest_bytes f-is in
    bind_ok (next_written a.0 f.1) _ x f-then (λ g g-is g-then.
    let value = (written_reader a.0).takes f.1 g data_tag.taken.rest_bytes g-is in
    bind_ok (next_riding wire n g.1) _ x g-then (λ h h-is h-then.
    let riding = (riding_reader wire n count).takes g.1 h value.taken.rest_bytes h-is in
    let tags = takes_then (takes_then (takes_then (takes_then kind.taken register.taken) t.taken) submit_tag.taken) data_tag.taken in
    subst (IsRead Submit (submit_text wire) (IsSubmitUnder wire n) bytes) (same_Some _ _ h-then) (record {
      taken = takes_then (takes_then tags value.taken) riding.taken;
      fits = record {
        in_range = record {
          register_in_range = register.fits;
          number = t.fits;
          value_in_range = value.fits;
          submit_tag_sized = submit_tag.fits;
          data_tag_sized = data_tag.fits;
          commit_in_range = riding.fits.in_range;
        };
        none_under_1 = riding.fits.none_under_1;
      };
    }))))))))

submit_again : (wire n : ℕ) → IsClientCount n → (m : Submit) (rest : List ℕ) → IsSubmitUnder wire n m
    → next_submit wire n (submit_text wire m ++ rest) ≡ Some (m, rest)
unfolding next_submit
submit_again wire n count m rest under =
    let fits = under.in_range in
    let riding = riding_bytes wire m.commit in
    let parted : (be64 m.t ++ m.submit_tag ++ m.data_tag ++ written_bytes m.value ++ riding) ++ rest
    ≡ be64 m.t ++ (m.submit_tag ++ (m.data_tag ++ (written_bytes m.value ++ (riding ++ rest)))) =
    parted_five (be64 m.t) m.submit_tag m.data_tag (written_bytes m.value) riding rest in
    ap (λ (t : List ℕ). next_submit wire n (kind_byte m.kind ∷ m.register ∷ t)) parted
    ∙ bind_some _ _ _ _ (kind_reader.again m.kind _ tt)
    (bind_some _ _ _ _ ((client_reader n).again m.register _ fits.register_in_range)
    (bind_some _ _ _ _ (number_reader.again m.t _ fits.number)
    (bind_some _ _ _ _ (tag_reader.again m.submit_tag _ fits.submit_tag_sized)
    (bind_some _ _ _ _ (tag_reader.again m.data_tag _ fits.data_tag_sized)
    (bind_some _ _ _ _ ((written_reader m.kind).again m.value _ fits.value_in_range)
    (bind_some _ _ _ _ ((riding_reader wire n count).again m.commit rest
    (record { none_under_1 = under.none_under_1; in_range = fits.commit_in_range })) refl))))))
  where
    parted_five : (a b c d e rest : List ℕ) → (a ++ b ++ c ++ d ++ e) ++ rest ≡ a ++ (b ++ (c ++ (d ++ (e ++ rest))))
    parted_five a b c d e rest = simp append_assoc

pub submit_reader : (wire n : ℕ) → IsClientCount n
    → IsReader Submit (next_submit wire n) (submit_text wire) (IsSubmitUnder wire n)
submit_reader wire n count = record { takes = submit_takes wire n count; again = submit_again wire n count }

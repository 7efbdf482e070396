-- What is told of a run that was judged. The texts that a program writes of a run rest on this file.
use Rattle.std.specs.Prelude.{◌≡◌, ℕ, List, ◌++◌, codes}
use Rattle.std.specs.Fmt.{decimal}
use Rattle.hex.specs.Hex.{encode_lower}
use Rattle.faust_record.specs.Runs.{Run}
use Rattle.faust_record.specs.declared.findings.Findings.{Findings}
use Rattle.faust_premises.specs.Premises.{Verdict, clean, forged, collision}
use Rattle.faust_views.specs.Forks.{views_of}
use Rattle.faust_audit.specs.Findings.{findings_of}

-- What is found of a run, with the views of its clients.
abbrev pub found_of : Run → Findings
found_of run = findings_of run (views_of run)

-- Where a run isn't clean: the entry that showed a forged tag, and the body that it is over; or two inputs that have
-- one digest.
abbrev pub forged_text : ℕ → List ℕ → List ℕ
forged_text entry body = codes "forged: entry " ++ (decimal entry ++ (codes " body " ++ (encode_lower body ++ codes "\n")))

abbrev pub collision_text : List ℕ → List ℕ → List ℕ
collision_text first second = codes "collision: " ++ (encode_lower first ++ (codes " " ++ (encode_lower second ++ codes "\n")))

-- Why a run isn't clean, in words.
abbrev pub IsPremiseText : Verdict → List ℕ → Type 0
IsPremiseText clean text = ⊥
IsPremiseText (forged entry body) text = text ≡ forged_text entry body
IsPremiseText (collision first second) text = text ≡ collision_text first second

-- Where the words are no form of a program.
abbrev pub usage_text : List ℕ
usage_text = codes "usage: faust script | record | audit | json | migrate | sample SEED CLIENTS OPS | live CLIENTS OPS KEY short | live CLIENTS OPS KEY full\n"

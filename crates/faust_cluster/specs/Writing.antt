-- What becomes of a text that is due at a status. It only helps proofs.
use Rattle.std.specs.Prelude.{◌≡◌, ◌⊎◌, ℕ, List, Option}
use Rattle.std.specs.Io.KnownBytes.{Appends}
use Rattle.faust_io.specs.Faults.{CountsFault}
use Rattle.faust_io.specs.Writing.{AppendsPrefix}
use Rattle.faust_outcome.specs.declared.status.LiveStatus.{LiveStatus}
use Rattle.faust_outcome.specs.declared.status.LiveStatus.TheVariants.{WriteFault}

-- It is written whole, or a write failed.
abbrev pub EndsWriting : LiveStatus → List ℕ → (held held_now : Option (List ℕ)) → (faults faults_now : ℕ) → LiveStatus → Type 0
EndsWriting status text held held_now faults faults_now result =
    ((result ≡ status) × Appends held held_now text × (faults_now ≡ faults))
    ⊎ ((result ≡ WriteFault) × AppendsPrefix held held_now text × CountsFault faults faults_now)

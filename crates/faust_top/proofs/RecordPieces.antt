-- A record that is read piece by piece: what is known of the bytes so far.
use Rattle.std.proofs.Common.{◌≡◌, ℕ, ◌+◌, ◌<◌, ◌≤◌, List, ◌++◌, length, Option, None, Some, IfSome, Result, Ok, Err, refl, sym, ap, ◌∙◌, subst, arith, append_assoc}
use Rattle.std.specs.Io.KnownBytes.{Consumes, IsAtEnd}
use Rattle.std.proofs.KnownBytes.{Consumes-trans, Consumes-whole}
use Rattle.std.proofs.lemmas.List.{length-append}
use Rattle.faust_io.specs.declared.failed.ReadError.{ReadError}
use Rattle.faust_io.specs.declared.failed.ReadError.TheVariants as reads
use Rattle.faust_text.specs.declared.cause.Cause.{Cause}
use Rattle.faust_record.specs.Runs.{Run}
use Rattle.faust_store.specs.declared.error.StoreError.{StoreError}
use Rattle.faust_store.specs.declared.error.StoreError.TheVariants as store
use Rattle.faust_store.specs.declared.feed.Feed.{Feed}
use Rattle.faust_store.specs.Feeding.{Takes, due_of}
use Rattle.faust_store.specs.Reading.{Reads, Refusal, read}
use Rattle.faust_top.specs.declared.record_input.RecordError.{RecordError}
use Rattle.faust_top.specs.declared.record_input.RecordError.TheVariants as errors
use Rattle.faust_top.specs.Output.{IsInputRead}
use Rattle.faust_top.specs.RecordInput.{IsRefusal, LeavesUnread, ReadsRun}

behind_front : (a b : Option (List ℕ)) (front : List ℕ) (left most : ℕ) → Consumes a b front → length front + left ≡ most
    → IfSome b (λ content. left < length content) → IfSome a (λ content. most < length content)
behind_front None b front left most taken sum many = tt
behind_front (Some x) None front left most taken sum many = absurd taken
behind_front (Some x) (Some y) front left most taken sum many =
    let all : length x ≡ length front + length y = ap length taken ∙ length-append front y in omega (arith, many, sum, all)

-- What is left unread behind a front that was read.
pub unread_behind : (a b : Option (List ℕ)) (front : List ℕ) (left most before middle after : ℕ) (e : ReadError) → Consumes a b front
    → length front + left ≡ most → middle ≡ before → LeavesUnread left b middle after e → LeavesUnread most a before after e
unread_behind a b front left most before middle after reads.TooLong taken sum same unread =
    (behind_front a b front left most taken sum unread.0, unread.1 ∙ same)
unread_behind a b front left most before middle after reads.Failed taken sum same unread =
    subst (λ (k : ℕ). LeavesUnread most a k after reads.Failed) same unread
unread_behind a b front left most before middle after reads.OutOfMemory taken sum same unread = unread ∙ same

-- The whole input was read.
pub whole_read : (a b : Option (List ℕ)) (input : List ℕ) (most before after : ℕ) → Consumes a b input → IsAtEnd b → length input ≤ most
    → after ≡ before
    → IsInputRead most a b before after input
whole_read a b input most before after taken end few same = record {
  whole = record { all = Consumes-whole a b input (λ content. content ≡ input) taken end refl; at_end = end };
  within = few;
  reads_kept = same;
}

-- A refusal by the store of what came so far is one of the whole record.
pub refused_read : (a b c : Option (List ℕ)) (front : List ℕ) (left most before middle after : ℕ) (error : StoreError)
    (result : RecordError)
    → Consumes a b front → length front + left ≡ most → middle ≡ before → ((later : List ℕ) → Reads (Err error) (read (front ++ later)))
    → IsRefusal left b c middle after error result → ReadsRun most a c before after (Err result)
refused_read a b c front left most before middle after (store.BadRecord line cause) (errors.Refused number why) taken sum same due refusal =
    let rest = refusal.0 in
    let input : List ℕ = front ++ rest.rest in
    let few = rest.within in record {
      input = input;
      whole = whole_read a c input most before after (Consumes-trans a b c front rest.rest taken rest.next) rest.end
          (omega (arith, few, sum, length-append front rest.rest)) (refusal.1 ∙ same);
      read_is =
          subst (λ (w : Cause). read input ≡ Err (record { line = number; cause = w })) (sym refusal.3)
          (subst (λ (n : ℕ). read input ≡ Err (record { line = n; cause = cause })) (sym refusal.2) (due rest.rest));
    }
refused_read a b c front left most before middle after store.OutOfMemory (errors.Refused number why) taken sum same due refusal =
    absurd refusal
refused_read a b c front left most before middle after (store.BadRecord line cause) (errors.Unread e) taken sum same due refusal =
    unread_behind a b front left most before middle after e taken sum same refusal
refused_read a b c front left most before middle after store.OutOfMemory (errors.Unread e) taken sum same due refusal =
    unread_behind a b front left most before middle after e taken sum same refusal

-- What is due of a feed once one more piece came, and of one that refuses it.
regrouped : (front piece bytes later : List ℕ) → piece ≡ bytes → read (front ++ (piece ++ later)) ≡ read ((front ++ bytes) ++ later)
regrouped front piece bytes later is =
    ap (λ (p : List ℕ). read (front ++ (p ++ later))) is ∙ ap read (sym (append_assoc front bytes later))

pub due_behind : (front piece bytes : List ℕ) (feed next : Feed) → piece ≡ bytes
    → ((later : List ℕ) → due_of feed later ≡ read (front ++ later))
    → Takes (Ok next) feed piece → (later : List ℕ) → due_of next later ≡ read ((front ++ bytes) ++ later)
due_behind front piece bytes feed next is due takes later =
    takes later ∙ (due (piece ++ later) ∙ regrouped front piece bytes later is)

pub refusal_behind : (front piece bytes : List ℕ) (feed : Feed) (error : StoreError) → piece ≡ bytes
    → ((later : List ℕ) → due_of feed later ≡ read (front ++ later))
    → Takes (Err error) feed piece → (later : List ℕ) → Reads (Err error) (read ((front ++ bytes) ++ later))
refusal_behind front piece bytes feed error is due takes later =
    subst (λ (d : Result Run Refusal). Reads (Err error) d) (due (piece ++ later) ∙ regrouped front piece bytes later is) (takes later)

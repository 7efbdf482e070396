-- The words of entries' lines.
use Rattle.std.specs.Prelude.{ℕ, List, [], ◌∷◌, codes, Option}
use Rattle.std.specs.List.{find}
use Rattle.std.specs.Str.{bytes_eq}
use Rattle.faust_store.specs.declared.word.EntryWord.{EntryWord}
use Rattle.faust_store.specs.declared.word.EntryWord.TheVariants as words

abbrev pub word_text : EntryWord → List ℕ
word_text words.Begin = codes "begin"
word_text words.Arrive = codes "arrive"
word_text words.Reply = codes "reply"
word_text words.Peer = codes "peer"
word_text words.Tick = codes "tick"

abbrev pub entry_words : List EntryWord
entry_words = words.Begin ∷ words.Arrive ∷ words.Reply ∷ words.Peer ∷ words.Tick ∷ []

-- The word that a token is.
unfoldable pub entry_word : List ℕ → Option EntryWord
entry_word token = find (λ word. bytes_eq (word_text word) token) entry_words

-- What entries left stays as more of them come.
use Rattle.std.proofs.Common.{ℕ, ◌≤◌, List, Option, inr, arith}
use Rattle.faust_types.specs.declared.message.PeerMessage.{PeerMessage}
use Rattle.faust_types.specs.declared.message.Reply.{Reply}
use Rattle.faust_types.specs.declared.operation.Operation.{Operation}
use Rattle.faust_lists.specs.Names.{Has}
use Rattle.faust_forks.specs.Pasts.{IsLater, Past, begun_at, begun_in, completed_in, done_at, hashed_in, sent_in}
use Rattle.faust_forks.proofs.Found.{begun-more, done-more}

pub later-self : (past : Past) → IsLater past past
later-self past = record {
  begun_kept = λ k t begun h. h;
  done_kept = λ k t done h. h;
  made_kept = λ source h. h;
  hashed_kept = λ input h. h;
  comes_later = omega arith;
}

pub later-along : (a b c : Past) → IsLater a b → IsLater b c → IsLater a c
later-along a b c h i = record {
  begun_kept = λ k t begun found. i.begun_kept k t begun (h.begun_kept k t begun found);
  done_kept = λ k t done found. i.done_kept k t done (h.done_kept k t done found);
  made_kept = λ source has. i.made_kept source (h.made_kept source has);
  hashed_kept = λ input has. i.hashed_kept input (h.hashed_kept input has);
  comes_later = omega (arith, h.comes_later, i.comes_later);
}

pub later-begun : (past : Past) (me : ℕ) (op : Operation) (value digest : Option (List ℕ))
    → IsLater past (begun_in past me op value digest)
later-begun past me op value digest = record {
  begun_kept = begun-more past.started (begun_at past me op value);
  done_kept = λ k t done h. h;
  made_kept = λ source h. inr (inr h);
  hashed_kept = λ input h. h;
  comes_later = omega arith;
}

pub later-completed : (past : Past) (me : ℕ) (op : Operation) (reply : Reply) (digest : List ℕ)
    → IsLater past (completed_in past me op reply digest)
later-completed past me op reply digest = record {
  begun_kept = λ k t begun h. h;
  done_kept = done-more past.book (done_at past me op reply);
  made_kept = λ source h. inr (inr h);
  hashed_kept = λ input h. h;
  comes_later = omega arith;
}

pub later-sent : (past : Past) (message : PeerMessage) → IsLater past (sent_in past message)
later-sent past message = record {
  begun_kept = λ k t begun h. h;
  done_kept = λ k t done h. h;
  made_kept = λ source h. inr h;
  hashed_kept = λ input h. h;
  comes_later = omega arith;
}

pub later-hashed : (past : Past) (hashed : List (List ℕ)) (entry : ℕ) → ((x : List ℕ) → Has past.hashed x → Has hashed x)
    → past.entry ≤ entry → IsLater past (hashed_in past hashed entry)
later-hashed past hashed entry grows le = record {
  begun_kept = λ k t begun h. h;
  done_kept = λ k t done h. h;
  made_kept = λ source h. h;
  hashed_kept = grows;
  comes_later = le;
}

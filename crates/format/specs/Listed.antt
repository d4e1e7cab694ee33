-- What a call that lists numbers answers, and what it leaves in a lent list: the leaves of `get_pvs`, the nodes that a walk or a trace enters.
use Rattle.std.specs.Prelude.{ℕ, cond, List, ◌++◌, ltb, length, drop}
use Rattle.format.specs.Answer.{Answer, answer, refused}

-- how many entries were listed, and the lent list after the call
pub record Listed : Type 0 where
  pub answered : Answer ℕ
  pub list : List ℕ

abbrev pub listed : Answer ℕ → List ℕ → Listed
listed a l = record { answered = a; list = l }

-- The entries at the front of the lent list, whose other entries are kept; 22 where it is too short. A refusal writes nothing.
abbrev pub into : Answer (List ℕ) → List ℕ → Listed
into (refused n) lent = listed (refused n) lent
into (answer entries) lent =
    cond (ltb (length lent) (length entries)) (listed (refused 22) lent) (listed (answer (length entries)) (entries ++ drop (length entries) lent))

-- What the statuses of calls say: a status of 0 that every list was long enough and that the answer was given, since no refusal is 0. Assumes nothing.
use Prim.Native.Nat.{ℕ, ◌≤◌}
use native.Mathlib.Omega.{arith}
use mathlib.Core.Bool.{Bool, true, false, cond}
use mathlib.Core.List.{List, ◌++◌}
use mathlib.Core.Path.{◌≡◌, refl}
use borrow.Author.Tests.{le-ltb, ltb-false}
use lib.Dec.{ltb, eqb}
use lib.Ieee.{binary32}
use lib.Ieee.Bits.{of_bits-fits}
use lib.ListN.{length, get_or, drop}
use Rattle.format.specs.Answer.{Answer, answer, refused, mapped}
use Rattle.format.specs.Listed.{listed, into}
use Rattle.nodes.specs.declared.table.HullTable.{HullTable}
use Rattle.nodes.specs.declared.table.HullTable.TheVariants.{Render, Clip, Box}
use Rattle.tree.specs.Readable.{Floats}
use Rattle.loaded.specs.Refusals.{RefusedOnly}
use Rattle.words.specs.Words.{Written, written, given, at_least, Left, left, enough, listed_in}
use Rattle.served.specs.Cited.{hull_from, vector_at, hull_in, table_word}

abbrev pub Some : ℕ → Type 0
Some n = 1 ≤ n

-- ---- lists long enough

module _ {A : Type 0} (n : ℕ) (ws : List A) where
  pub long : (out : List ℕ) (rest : Written) → n ≤ length ws → at_least n ws out rest ≡ rest
  long out rest h = simp (le-ltb (length ws) n h)

  pub long_both : (list out : List ℕ) (rest : Left) → n ≤ length ws → enough n ws list out rest ≡ rest
  long_both list out rest h = simp (le-ltb (length ws) n h)

  pub was_long : (out : List ℕ) (rest : Written) → (at_least n ws out rest).status ≡ 0 → (n ≤ length ws) × (rest.status ≡ 0)
  was_long out rest e = by (ltb (length ws) n) refl e
    where
      by : (b : Bool) → ltb (length ws) n ≡ b → (cond b (written 22 out) rest).status ≡ 0 → (n ≤ length ws) × (rest.status ≡ 0)
      by true q e = absurd (omega (arith, e))
      by false q e = (ltb-false (length ws) n q, e)

  pub were_long : (list out : List ℕ) (rest : Left) → (enough n ws list out rest).status ≡ 0 → (n ≤ length ws) × (rest.status ≡ 0)
  were_long list out rest e = by (ltb (length ws) n) refl e
    where
      by : (b : Bool) → ltb (length ws) n ≡ b → (cond b (left 22 list out) rest).status ≡ 0 → (n ≤ length ws) × (rest.status ≡ 0)
      by true q e = absurd (omega (arith, e))
      by false q e = (ltb-false (length ws) n q, e)

-- ---- answers

-- no refusal of x is 0
pub was_answered : {A : Type 0} (w : A → List ℕ) (x : Answer A) (out : List ℕ) → RefusedOnly Some x → (given (mapped w x) out).status ≡ 0 → (v : A) × (x ≡ answer v)
was_answered w (answer v) out f e = (v, refl)
was_answered w (refused n) out f e = let l : 1 ≤ n = f n refl in absurd (omega (arith, e, l))

-- ---- a call's status, by its definition's parts

module _ (P : ℕ → Type 0) (p0 : P 0) where
  pub of_given : {A : Type 0} (w : A → List ℕ) (x : Answer A) (out : List ℕ) → RefusedOnly P x → P (given (mapped w x) out).status
  of_given w (answer v) out f = p0
  of_given w (refused n) out f = f n refl

  module _ (p22 : P 22) where
    pub at_least_lem : {A : Type 0} (n : ℕ) (ws : List A) (out : List ℕ) (rest : Written) → P rest.status → P (at_least n ws out rest).status
    at_least_lem n ws out rest f = by (ltb (length ws) n)
      where
        by : (b : Bool) → P (cond b (written 22 out) rest).status
        by true = p22
        by false = f

    pub both : {A : Type 0} (n : ℕ) (ws : List A) (list out : List ℕ) (rest : Left) → P rest.status → P (enough n ws list out rest).status
    both n ws list out rest f = by (ltb (length ws) n)
      where
        by : (b : Bool) → P (cond b (left 22 list out) rest).status
        by true = p22
        by false = f

    pub of_listed : (x : Answer (List ℕ)) (list out : List ℕ) → RefusedOnly P x → P (listed_in (into x list) out).status
    of_listed (refused n) list out f = f n refl
    of_listed (answer ns) list out f = by (ltb (length list) (length ns))
      where
        by : (b : Bool) → P (listed_in (cond b (listed (refused 22) list) (listed (answer (length ns)) (ns ++ drop (length ns) list))) out).status
        by true = p22
        by false = p0

-- ---- the words of a hull

pub from_words : (t : HullTable) (ws : List ℕ) → get_or ws 0 0 ≡ table_word t → hull_from ws ≡ answer (hull_in t ws)
unfolding hull_from
from_words Render ws e = rw e
from_words Clip ws e = rw e
from_words Box ws e = rw e

pub word_floats : (ws : List ℕ) (at : ℕ) → Floats (vector_at ws at)
word_floats ws at = record { x_float = of_bits-fits binary32 _; y_float = of_bits-fits binary32 _; z_float = of_bits-fits binary32 _ }

-- the hull of words is of some table, or they are refused with 20
pub data OfWords (ws : List ℕ) : Type 0 where
  of_table : (t : HullTable) → hull_from ws ≡ answer (hull_in t ws) → OfWords ws
  of_none : hull_from ws ≡ refused 20 → OfWords ws

pub of_words : (ws : List ℕ) → OfWords ws
unfolding hull_from
of_words ws = by (eqb (get_or ws 0 0) 0) (eqb (get_or ws 0 0) 1) (eqb (get_or ws 0 0) 2) refl
  where
    by : (a b c : Bool) → hull_from ws ≡ cond a (answer (hull_in Render ws)) (cond b (answer (hull_in Clip ws)) (cond c (answer (hull_in Box ws)) (refused 20))) → OfWords ws
    by true b c e = of_table Render e
    by false true c e = of_table Clip e
    by false false true e = of_table Box e
    by false false false e = of_none e

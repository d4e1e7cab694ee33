-- With what walks, traces and loading may be refused, for every file, every map record, loaded or made by hand, every hull record, every root, every point
-- and every segment. Nothing is assumed of them.
--
-- A walk: 23, 30, 31. A trace: 23, 30, 32. So `join` is never asked where the Rust panics (19), and an accessor's 20 never shows in a walk, since every
-- number is tested (30) before its record is read.
--
-- The walks and traces are the definitions in the contracts of `contents_at_point`, `find_leaf`, `find_leaf_from` and `trace`; loading is that of `load`.
use Rattle.std.specs.Prelude.{ℕ, ◌≤◌, List, [], ◌∷◌, ◌⊎◌, ◌≡◌}
use Rattle.format.specs.Answer.{Answer, refused}
use Rattle.format.specs.Refusal.{number_of}
use Rattle.format.specs.declared.refusal.Refusal.{Refusal}
use Rattle.format.specs.declared.refusal.Refusal.TheVariants.{CannotJoin, NoSuchRecord, Unreadable, IndexOutsideTable, WalkTooLong, TooDeep}
use Rattle.format.specs.declared.section.BspData.{BspData}
use Rattle.math.specs.declared.vector.Vector3.{Vector3}
use Rattle.walk.specs.Walk.{with_visits, point_walk}
use Rattle.walk.specs.Tracing as Tracing
use Rattle.nodes.specs.Tables.{leaf_table}
use Rattle.hull.specs.Hull.{hull_table}
use Rattle.hull.specs.declared.collision.BspCollisionHull.{BspCollisionHull}
use Rattle.load.specs.Load.{load_of}

-- the number of one of these refusals
abbrev pub OneOf : List Refusal → ℕ → Type 0
OneOf [] n = ⊥
OneOf (e ∷ es) n = (n ≡ number_of e) ⊎ OneOf es n

-- 23, 30, 31
abbrev pub of_walks : List Refusal
of_walks = Unreadable ∷ IndexOutsideTable ∷ WalkTooLong ∷ []

-- 23, 30, 32
abbrev pub of_traces : List Refusal
of_traces = Unreadable ∷ IndexOutsideTable ∷ TooDeep ∷ []

-- whatever an answer is refused with fulfils P
abbrev pub RefusedOnly : (P : ℕ → Type 0) {A : Type 0} → Answer A → Type 0
RefusedOnly P a = (n : ℕ) → a ≡ refused n → P n

-- for one file, map record and hull record: P of every refusal of a walk, Q of every refusal of a trace
pub record Refusals (P Q : ℕ → Type 0) (s : List ℕ) (m : BspData) (hull : BspCollisionHull) : Type 0 where
  -- `contents_at_point`
  pub contents : (p : Vector3) → RefusedOnly P (with_visits (point_walk (hull_table s m hull) hull.node_id p))
  -- `find_leaf` (from node 0) and `find_leaf_from`
  pub leaf : (root : ℕ) (p : Vector3) → RefusedOnly P (with_visits (point_walk (leaf_table s m) root p))
  -- `trace`
  pub trace : (start end : Vector3) → RefusedOnly Q (with_visits (Tracing.trace (hull_table s m hull) hull.node_id start end))

-- no other refusal
abbrev pub EveryRefusal : Type 0
EveryRefusal = (s : List ℕ) (m : BspData) (hull : BspCollisionHull) → Refusals (OneOf of_walks) (OneOf of_traces) s m hull

-- never this one
abbrev pub Never : Refusal → Type 0
Never e = (s : List ℕ) (m : BspData) (hull : BspCollisionHull) → Refusals (λ n. ¬ (n ≡ number_of e)) (λ n. ¬ (n ≡ number_of e)) s m hull

-- the panic inside `join` never fires: 19
abbrev pub NeverPanics : Type 0
NeverPanics = Never CannotJoin

-- an accessor's 20 never shows
abbrev pub NeverNoSuchRecord : Type 0
NeverNoSuchRecord = Never NoSuchRecord

-- 1 to 15
abbrev pub OfLoading : ℕ → Type 0
OfLoading n = (1 ≤ n) × (n ≤ 15)

-- loading has no other refusal
abbrev pub LoadingRefuses : Type 0
LoadingRefuses = (s : List ℕ) → RefusedOnly OfLoading (load_of s)

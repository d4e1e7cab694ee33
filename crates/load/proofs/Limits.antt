-- The limits that a map record passed, one by one.
-- Assumes nothing.
use Prim.Native.Nat.{ℕ, ◌<◌}
use mathlib.Core.Path.{◌≡◌, refl}
use mathlib.Core.Bool.{Bool, true, false, cond}
use native.Mathlib.Omega.{arith}
use borrow.Author.Tests.{eqb-false, not-false}
use lib.Dec.{eqb}
use Rattle.format.specs.Section.{within_limit, record_count, section_of}
use Rattle.format.specs.Step.{Step, ok, refused}
use Rattle.format.specs.declared.section.BspData.{BspData}
use Rattle.format.specs.declared.section.BspFileSectionId.{BspFileSectionId}
use Rattle.format.specs.declared.section.BspFileSectionId.TheVariants.{Planes, Vertices, Visibility, RenderNodes, CollisionNodes, Leaves, Edges, EdgeList, Models}
use Rattle.sections.specs.Table.{limits, limits_from_leaves, exceeds}
use Rattle.sections.proofs.Bounded.{not_ok}

-- a test whose refusal did not come: it failed, and the rest passed
pub left : (t : Bool) (n : ℕ) (x : Step (Unit {0})) (p : ℕ) → cond t (refused n) x ≡ ok tt p → (t ≡ false) × (x ≡ ok tt p)
left true n x p e = not_ok e
left false n x p e = (refl, e)

-- the section's count is within its limit
abbrev Within : BspFileSectionId → BspData → Type 0
Within id m = within_limit id (record_count id (section_of id m)) ≡ true

within : (id : BspFileSectionId) (m : BspData) → exceeds id m ≡ false → Within id m
unfolding exceeds
within id m e = not-false (within_limit id (record_count id (section_of id m))) e

pub record Limited (m : BspData) : Type 0 where
  pub planes : Within Planes m
  pub vertices : Within Vertices m
  pub visibility : Within Visibility m
  pub render_nodes : Within RenderNodes m
  pub collision_nodes_lem : Within CollisionNodes m
  pub leaves : Within Leaves m
  pub edges : Within Edges m
  pub edgelist : Within EdgeList m
  pub some_model : 0 < record_count Models m.models
  pub models : Within Models m

pub each_limit : (m : BspData) (p : ℕ) → limits m ≡ ok tt p → Limited m
unfolding limits limits_from_leaves
each_limit m p e =
    let a = left (exceeds Planes m) 6 _ p e in
    let b = left (exceeds Vertices m) 6 _ p a.1 in
    let c = left (exceeds Visibility m) 6 _ p b.1 in
    let d = left (exceeds RenderNodes m) 6 _ p c.1 in
    let f = left (exceeds CollisionNodes m) 6 _ p d.1 in
    let g = left (exceeds Leaves m) 6 _ p f.1 in
    let h = left (exceeds Edges m) 6 _ p g.1 in
    let i = left (exceeds EdgeList m) 6 _ p h.1 in
    let j = left (eqb (record_count Models m.models) 0) 6 _ p i.1 in
    let k = left (exceeds Models m) 6 _ p j.1 in
    let z = eqb-false (record_count Models m.models) 0 j.0 in
    record {
      planes = within Planes m a.0;
      vertices = within Vertices m b.0;
      visibility = within Visibility m c.0;
      render_nodes = within RenderNodes m d.0;
      collision_nodes_lem = within CollisionNodes m f.0;
      leaves = within Leaves m g.0;
      edges = within Edges m h.0;
      edgelist = within EdgeList m i.0;
      some_model = positive (record_count Models m.models) z;
      models = within Models m k.0;
    }
  where
    positive : (n : ℕ) → (n ≡ 0 → ⊥) → 0 < n
    positive n f = omega (arith, f)

-- `settle_group` meets its contract.
-- Assumes nothing.
use Prim.Native.Nat.{ℕ, ◌+◌, ◌-◌}
use native.Mathlib.Omega.{arith}
use mathlib.Core.Path.{◌≡◌, ◌∙◌}
use mathlib.Core.List.{List}
use lib.ListN.{length}
use borrow.Rule.Slice.PartMut.{mid_len, put_mid}
use Rattle.nodes.specs.Fast.{onto_child}
use Rattle.points.specs.Going.{part, Divides}
use Rattle.points.proofs.Downward.{went_settled, went_divided}
use Rattle.points.proofs.Halving.{Doing, doing_on, few_so_far, few_at_end, all_long, less_of, part_some, part_less}
use Rattle.points.proofs.group.+settle_group.Goals.{In-Divided, After-settle_group-m}
use Rattle.points.proofs.group.+settle_group.Goals as goal

-- ---- the group is divided

dv : (t : ℕ) (c : In-Divided t) →
    let a = c.args in
    let i = c.loop-n in
    let d = c.in-Divided in
    Divides a.s.now a.t a.coords.now i.more (onto_child a.t.table i.at) (part i.lo i.hi i.ids) i.out d.words d.front d.j d.n c.go_down.new.ids c.go_down.new.out
dv t c = went_divided _ _ _ _ _ _ _ _ _ _ c.go_down.ensures _ _ _ _ c.in-Divided.is

-- ---- the part with fewer points is back

-- the list after it
abbrev ids₁ : (t : ℕ) → After-settle_group-m t → List ℕ
ids₁ t c = put_mid c.loop-n.lo (c.loop-n.hi - c.loop-n.lo) c.loop-n.ids c.go_down.new.ids

next : (t : ℕ) (c : After-settle_group-m t) →
    let a = c.args in
    let i = c.loop-n in
    let d = c.in-Divided in
    let p = c.parts_of-p.result in
    let w = c.settle_group-m in
    Divides a.s.now a.t a.coords.now i.more (onto_child a.t.table i.at) (part i.lo i.hi i.ids) i.out d.words d.front d.j d.n c.go_down.new.ids c.go_down.new.out
    → Doing a.s.now a.t a.coords.now a.left a.child a.ids.now a.aside.now a.out.now (put_mid p.from (p.to - p.from) (ids₁ t c) w.new.ids) w.new.aside w.new.out p.more d.j (i.reads + d.n + w.result) p.lo p.hi
next t c divides =
    let p = c.parts_of-p.result in
    let w = c.settle_group-m in
    let q = less_of _ _ _ c.loop-n.invariant divides c.parts_of-p.ensures in
    let l : length w.new.ids ≡ p.to - p.from = w.auto.ids ∙ mid_len p.from p.to (ids₁ t c) q.within in
    doing_on _ _ _ c.loop-n.invariant divides w.new.aside w.new.out w.new.ids w.result (w.auto.aside ∙ c.go_down.auto.aside ∙ c.loop-n.invariant.as_wide)
    (w.auto.out ∙ c.go_down.auto.out ∙ c.loop-n.invariant.out_long) p c.parts_of-p.ensures l w.ensures

pub overflow_add-result : goal.overflow_add-result
overflow_add-result t c = omega (arith, few_at_end _ _ _ c.loop-n.invariant (went_settled _ _ _ _ _ _ _ _ _ _ c.go_down.ensures _ c.in-Settled.is) (omega (arith, c.ranges.left.fits)) (omega (arith, c.requires)))

pub offset_bounds-ids-from : goal.offset_bounds-ids-from
offset_bounds-ids-from t c =
    let divides = dv t (goal.at.offset_bounds-ids-from t c).In-Divided in
    let q = less_of _ _ _ c.loop-n.invariant divides c.parts_of-p.ensures in
    omega (arith, q.ordered, q.within, all_long _ _ _ c.loop-n.invariant divides, c.loop-n.invariant.as_long, c.requires)

pub slice_bounds-settle_group-count : goal.slice_bounds-settle_group-count
slice_bounds-settle_group-count t c =
    let q = less_of _ _ _ c.loop-n.invariant (dv t (goal.at.slice_bounds-settle_group-count t c).In-Divided) c.parts_of-p.ensures in
    omega (arith, q.ordered)

pub slice_bounds-settle_group-start : goal.slice_bounds-settle_group-start
slice_bounds-settle_group-start t c =
    let q = less_of _ _ _ c.loop-n.invariant (dv t (goal.at.slice_bounds-settle_group-start t c).In-Divided) c.parts_of-p.ensures in
    omega (arith, q.ordered, q.within)

pub slice_bounds-settle_group-end : goal.slice_bounds-settle_group-end
slice_bounds-settle_group-end t c = (less_of _ _ _ c.loop-n.invariant (dv t (goal.at.slice_bounds-settle_group-end t c).In-Divided) c.parts_of-p.ensures).within

pub settle_group-m-requires : goal.settle_group-m-requires
settle_group-m-requires t c =
    let divides = dv t (goal.at.settle_group-m-requires t c).In-Divided in
    let some = part_some _ _ _ c.loop-n.invariant divides c.parts_of-p.ensures in
    let less = part_less _ _ _ c.loop-n.invariant divides c.parts_of-p.ensures in
    let wide = c.go_down.auto.aside ∙ c.loop-n.invariant.as_wide in
    (omega (arith, less, c.decreases), (some, (omega (arith, less, wide, c.requires), omega (arith, wide, c.requires))))

pub overflow_add-reads : goal.overflow_add-reads
overflow_add-reads t c =
    let at = goal.at.overflow_add-reads t c in
    omega (arith, few_so_far _ _ _ (next t at.After-settle_group-m (dv t at.In-Divided)) (omega (arith, c.ranges.left.fits)) (omega (arith, c.requires)))

pub overflow_add-reads-in-Divided : goal.overflow_add-reads-in-Divided
overflow_add-reads-in-Divided t c =
    let at = goal.at.overflow_add-reads-in-Divided t c in
    omega (arith, few_so_far _ _ _ (next t at.After-settle_group-m (dv t at.In-Divided)) (omega (arith, c.ranges.left.fits)) (omega (arith, c.requires)))

pub loop-n-smaller : goal.loop-n-smaller
loop-n-smaller t c = (less_of _ _ _ c.loop-n.invariant (dv t (goal.at.loop-n-smaller t c).In-Divided) c.parts_of-p.ensures).rest_less

pub loop-n-preserved : goal.loop-n-preserved
loop-n-preserved t c =
    let at = goal.at.loop-n-preserved t c in
    next t at.After-settle_group-m (dv t at.In-Divided)

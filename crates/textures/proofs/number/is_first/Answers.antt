-- `textures::number::is_first` meets its contract: static, or the node's mark tells
-- Assumes nothing.
use Rattle.std.proofs.Common.{sym, arith}
use Rattle.texture_list.specs.Kind.{passing, starts, ends}
use Rattle.texture_list.specs.declared.kind.Kind.TheVariants.{Animated}
use Rattle.textures.proofs.Firsts.{is_there, first_is, never_earliest}
use Rattle.textures.proofs.Marks.{mark_skip}
use Rattle.textures.proofs.Steps.{is_of, is_not, sought, marked_at, node_inside}
use Rattle.textures.proofs.number.is_first.Goals as goal

pub returns-then-not-is_kind : goal.returns-then-not-is_kind
returns-then-not-is_kind c =
    let a = c.args in
    let q = c.requires in
    let e = is_not _ _ _ c.key_of-key.ensures _ c.is_kind.ensures c.if-not-is_kind.true in
    (sym (never_earliest (passing a.s.now a.base Animated) (starts a.s.now a.base) (ends a.s.now a.base) _ e), mark_skip (passing a.s.now a.base Animated) (starts a.s.now a.base) (ends a.s.now a.base) _ _ q.0 a.marks.now _ q.1.0 e)

pub returns-in_default : goal.returns-in_default
returns-in_default c =
    let a = c.args in
    let q = c.requires in
    absurd
    (is_there (passing a.s.now a.base Animated) (starts a.s.now a.base) (ends a.s.now a.base) _ _ q.0 a.marks.now _ q.1.0 _ (sought _ _ _ c.key_of-key.ensures _ c.is_kind.ensures _ _ c.seek.ensures)
    (q.1.1 (is_of _ _ _ c.key_of-key.ensures _ c.is_kind.ensures c.if-not-is_kind.false)) c.in_default.not-At)

pub bounds-marks-v : goal.bounds-marks-v
bounds-marks-v c =
    let a = c.args in
    let q = c.requires in
    node_inside (passing a.s.now a.base Animated) (starts a.s.now a.base) (ends a.s.now a.base) _ _ q.0 a.marks.now _ q.1.0 _ (sought _ _ _ c.key_of-key.ensures _ c.is_kind.ensures _ _ c.seek.ensures) _ c.in-At.is

pub bounds-marks-v-2 : goal.bounds-marks-v-2
bounds-marks-v-2 c =
    let a = c.args in
    let q = c.requires in
    node_inside (passing a.s.now a.base Animated) (starts a.s.now a.base) (ends a.s.now a.base) _ _ q.0 a.marks.now _ q.1.0 _ (sought _ _ _ c.key_of-key.ensures _ c.is_kind.ensures _ _ c.seek.ensures) _ c.in-At.is

pub returns : goal.returns
returns c =
    let a = c.args in
    let q = c.requires in
    let e = is_of _ _ _ c.key_of-key.ensures _ c.is_kind.ensures c.if-not-is_kind.false in
    let f = sought _ _ _ c.key_of-key.ensures _ c.is_kind.ensures _ _ c.seek.ensures in
    (first_is (passing a.s.now a.base Animated) (starts a.s.now a.base) (ends a.s.now a.base) _ _ q.0 a.marks.now _ q.1.0 _ f (q.1.1 e) _ c.in-At.is e, marked_at (passing a.s.now a.base Animated) (starts a.s.now a.base) (ends a.s.now a.base) _ _ q.0 a.marks.now _ q.1.0 _ f _ e c.in-At.is (omega arith))

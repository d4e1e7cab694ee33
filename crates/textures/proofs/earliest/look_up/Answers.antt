-- `textures::earliest::look_up` meets its contract: known before, static, not in the part, or in it
-- Assumes nothing.
use Rattle.std.proofs.Common.{sym, ◌∙◌, arith}
use Rattle.texture_list.specs.Kind.{passing, starts, ends}
use Rattle.texture_list.specs.declared.kind.Kind.TheVariants.{Animated}
use Rattle.textures.proofs.Sieves.{sought_sifted}
use Rattle.textures.proofs.Steps.{is_of, is_not}
use Rattle.textures.proofs.Leads.{stays_known, stays_static, not_in_part, node_within, has_head, new_head}
use Rattle.textures.proofs.earliest.look_up.Goals as goal

pub returns-then-known-ne-NONE : goal.returns-then-known-ne-NONE
returns-then-known-ne-NONE c = let a = c.args in
    let q = c.requires in
    stays_known (passing a.s.now a.base Animated) (starts a.s.now a.base) (ends a.s.now a.base) _ _ _ _ q.0 a.heads.now _ q.1.0 q.1.1.0 q.1.1.1.0 q.1.1.1.1.0 _ q.1.1.1.1.1.0 c.if-known-ne-NONE.true

pub returns-then-not-is_kind : goal.returns-then-not-is_kind
returns-then-not-is_kind c = let a = c.args in
    let q = c.requires in
    stays_static (passing a.s.now a.base Animated) (starts a.s.now a.base) (ends a.s.now a.base) _ _ _ _ q.0 a.heads.now _ q.1.0 q.1.1.0 q.1.1.1.0 q.1.1.1.1.0 (is_not _ _ _ c.key_of-key.ensures _ c.is_kind.ensures c.if-not-is_kind.true)

pub returns-in_default : goal.returns-in_default
returns-in_default c = let a = c.args in
    let q = c.requires in
    not_in_part (passing a.s.now a.base Animated) (starts a.s.now a.base) (ends a.s.now a.base) _ _ _ _ q.0 a.heads.now _ q.1.0 q.1.1.0 q.1.1.1.0 q.1.1.1.1.0 (is_of _ _ _ c.key_of-key.ensures _ c.is_kind.ensures c.if-not-is_kind.false) (sym q.1.1.1.1.1.0 ∙ c.if-known-ne-NONE.false) _ (sought_sifted _ _ c.key_of-key.ensures _ _ c.seek_sifted.ensures) c.in_default.not-Some

pub offset_bounds-heads-v : goal.offset_bounds-heads-v
offset_bounds-heads-v c = let a = c.args in
    let q = c.requires in
    omega (arith, node_within (passing a.s.now a.base Animated) (starts a.s.now a.base) (ends a.s.now a.base) _ _ _ _ q.0 a.heads.now _ q.1.0 q.1.1.0 q.1.1.1.0 q.1.1.1.1.0 (is_of _ _ _ c.key_of-key.ensures _ c.is_kind.ensures c.if-not-is_kind.false) (sym q.1.1.1.1.1.0 ∙ c.if-known-ne-NONE.false) _ (sought_sifted _ _ c.key_of-key.ensures _ _ c.seek_sifted.ensures) _ c.in-Some.is)

pub bounds-heads-v : goal.bounds-heads-v
bounds-heads-v c = let a = c.args in
    let q = c.requires in
    node_within (passing a.s.now a.base Animated) (starts a.s.now a.base) (ends a.s.now a.base) _ _ _ _ q.0 a.heads.now _ q.1.0 q.1.1.0 q.1.1.1.0 q.1.1.1.1.0 (is_of _ _ _ c.key_of-key.ensures _ c.is_kind.ensures c.if-not-is_kind.false) (sym q.1.1.1.1.1.0 ∙ c.if-known-ne-NONE.false) _ (sought_sifted _ _ c.key_of-key.ensures _ _ c.seek_sifted.ensures) _ c.in-Some.is

pub returns-then-head : goal.returns-then-head
returns-then-head c = let a = c.args in
    let q = c.requires in
    has_head (passing a.s.now a.base Animated) (starts a.s.now a.base) (ends a.s.now a.base) _ _ _ _ q.0 a.heads.now _ q.1.0 q.1.1.0 q.1.1.1.0 q.1.1.1.1.0 (is_of _ _ _ c.key_of-key.ensures _ c.is_kind.ensures c.if-not-is_kind.false) (sym q.1.1.1.1.1.0 ∙ c.if-known-ne-NONE.false) _ (sought_sifted _ _ c.key_of-key.ensures _ _ c.seek_sifted.ensures) _ c.in-Some.is c.if-head.true

pub returns : goal.returns
returns c = let a = c.args in
    let q = c.requires in
    new_head (passing a.s.now a.base Animated) (starts a.s.now a.base) (ends a.s.now a.base) _ _ _ _ q.0 a.heads.now _ q.1.0 q.1.1.0 q.1.1.1.0 q.1.1.1.1.0 (is_of _ _ _ c.key_of-key.ensures _ c.is_kind.ensures c.if-not-is_kind.false) (sym q.1.1.1.1.1.0 ∙ c.if-known-ne-NONE.false) _ (sought_sifted _ _ c.key_of-key.ensures _ _ c.seek_sifted.ensures) _ c.in-Some.is c.if-head.false (omega arith)

-- `textures::earliest::list_earliest` meets its contract: the part of the list has an entry for each texture
-- Assumes nothing.
use Rattle.std.specs.Prelude.{ℕ, ◌≡◌, length, take}
use Rattle.std.proofs.Common.{arith, ap, ◌∙◌}
use Rattle.std.proofs.Math.ListN.{length-take}
use Rattle.texture_list.specs.List.{names_of}
use Rattle.textures.specs.Count.{values_below}
use Rattle.textures.specs.Private.{earliest_by}
use Rattle.textures.proofs.Accesses.{few_textures}
use Rattle.textures.proofs.Leads.{earliest_listed}
use Rattle.textures.proofs.earliest.list_earliest.Goals as goal

pub find_each-requires : goal.find_each-requires
find_each-requires c =
    let few = few_textures _ _ _ _ c.is_sound_in.ensures c.if-not-is_sound_in.false in
    omega (arith, few, length-take c.args.map.texture_count c.args.list.now, c.if-list-end.false)

pub returns : goal.returns
returns c =
    let a = c.args in
    let n = a.map.texture_count in
    let as_many : length (take n a.list.now) ≡ n = omega (arith, length-take n a.list.now, c.if-list-end.false) in
    let found = c.find_each.ensures ∙ ap (λ (k : ℕ). values_below (earliest_by (names_of a.file.now a.map.textures.offset) k) k) as_many in
    earliest_listed a.list.now a.file.now a.map _ c.is_sound_in.ensures c.if-not-is_sound_in.false c.find_each.new.list found c.if-list-end.false

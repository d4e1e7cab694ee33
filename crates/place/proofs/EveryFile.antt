-- The place that is said of a file has loading's own number: each step of loading is a step here, with the same answer.
-- Assumes nothing.
use mathlib.Core.Path.{◌≡◌, refl}
use Rattle.std.specs.Prelude.{ℕ}
use Rattle.format.specs.Answer.{Answer, mapped}
use Rattle.format.specs.Field.{u16_at}
use Rattle.format.specs.Step.{Step, ok, refused, and_then}
use Rattle.format.specs.declared.section.BspData.{BspData}
use Rattle.format.specs.declared.section.BspFileSectionId.TheVariants as Id
use Rattle.records.specs.Edge.{edge_at, edge_index_at}
use Rattle.records.specs.Leaf.{leaf_at}
use Rattle.records.specs.Node.{render_node_at, collision_node_at}
use Rattle.records.specs.Plane.{plane_at}
use Rattle.records.specs.Triple.{vector_at}
use Rattle.models.specs.Model.{file_model_at}
use Rattle.sections.specs.Records.{section, blob}
use Rattle.sections.specs.Table.{header_at, limits}
use Rattle.textures.specs.Section as Section
use Rattle.load.specs.Entities.{entities}
use Rattle.load.specs.Extents.{face_extents}
use Rattle.load.specs.Load.{outcome, load_at, counted}
use Rattle.load.specs.Tested.{texinfos, faces, leaf_references}
use Rattle.place.specs.EveryFile.{told, EveryFile}
use Rattle.place.specs.Part.{stop_in}
use Rattle.place.specs.Place.{Located, located, place_of, header_stop, textures_stop}
use Rattle.place.specs.Stop.{stop}
use Rattle.place.specs.declared.part.Part.TheVariants as Part
use Rattle.place.specs.declared.part.Stop.{Stop}

-- whether loading refuses, and with which number
abbrev said : Step BspData → Answer (Unit {0})
said x = mapped (λ m. tt) (outcome x)

-- a step, and then the steps behind it
step : {A : Type 0} (x : Step A) (z : ℕ) (here : Stop) (next : A → Located) (k : A → ℕ → Step BspData)
    → ((v : A) (p : ℕ) → told (next v) ≡ said (k v p)) → told (located x z here next) ≡ said (and_then x k)
step (ok v p) z here next k h = h v p
step (refused n) z here next k h = refl

pub every_file : EveryFile
unfolding place_of load_at
every_file s =
    step (header_at s) 15 (header_stop s) _ _ (λ m p.
    step (limits m) 15 (stop_in Part.Limits s m) _ _ (λ u p.
    step (entities s m.entities) 0 (stop 0 m.entities.offset) _ _ (λ u p.
    step (section plane_at Id.Planes s m.planes) 1 (stop_in Part.Planes s m) _ _ (λ u p.
    step (Section.textures s m.textures) 2 (textures_stop s m) _ _ (λ n p.
    step (section vector_at Id.Vertices s (counted m n).vertices) 3 (stop_in Part.Vertices s (counted m n)) _ _ (λ u p.
    step (blob s (counted m n).visibility) 4 (stop 0 (counted m n).visibility.offset) _ _ (λ u p.
    step (section render_node_at Id.RenderNodes s (counted m n).render_nodes) 5 (stop_in Part.RenderNodes s (counted m n)) _ _ (λ u p.
    step (texinfos s (counted m n)) 6 (stop_in Part.TextureInfo s (counted m n)) _ _ (λ u p.
    step (faces s (counted m n)) 7 (stop_in Part.Faces s (counted m n)) _ _ (λ u p.
    step (blob s (counted m n).lightmaps) 8 (stop 0 (counted m n).lightmaps.offset) _ _ (λ u p.
    step (section collision_node_at Id.CollisionNodes s (counted m n).collision_nodes) 9 (stop_in Part.CollisionNodes s (counted m n)) _ _ (λ u p.
    step (section leaf_at Id.Leaves s (counted m n).leaves) 10 (stop_in Part.Leaves s (counted m n)) _ _ (λ u p.
    step (section u16_at Id.FaceList s (counted m n).facelist) 11 (stop_in Part.FaceList s (counted m n)) _ _ (λ u p.
    step (section edge_at Id.Edges s (counted m n).edges) 12 (stop_in Part.Edges s (counted m n)) _ _ (λ u p.
    step (section edge_index_at Id.EdgeList s (counted m n).edgelist) 13 (stop_in Part.EdgeList s (counted m n)) _ _ (λ u p.
    step (face_extents s (counted m n)) 7 (stop_in Part.Extents s (counted m n)) _ _ (λ u p.
    step (leaf_references s (counted m n)) 5 (stop_in Part.References s (counted m n)) _ _ (λ u p.
    step (section file_model_at Id.Models s (counted m n).models) 14 (stop_in Part.Models s (counted m n)) _ _ (λ u p. refl)))))))))))))))))))

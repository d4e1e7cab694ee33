-- What `==` says of contents: that their codes are equal.
-- Assumes nothing.
use mathlib.Core.Path.{◌≡◌, refl}
use denote.Enum.Bare.{sameb}
use Rattle.format.specs.Contents.{equal}
use Rattle.format.specs.contracts.contents.BspLeafContents.{the_type}
use Rattle.format.specs.declared.contents.BspLeafContents.{BspLeafContents}
use Rattle.format.specs.declared.contents.BspLeafContents.TheVariants.{Empty, Solid, Water, Slime, Lava, Sky, Current0, Current90, Current180, Current270, CurrentUp, CurrentDown}

pub same_contents : (a b : BspLeafContents) → sameb the_type a b ≡ equal a b
unfolding equal
same_contents Empty = elim [ Empty ↦ refl | Solid ↦ refl | Water ↦ refl | Slime ↦ refl | Lava ↦ refl | Sky ↦ refl | Current0 ↦ refl | Current90 ↦ refl | Current180 ↦ refl | Current270 ↦ refl | CurrentUp ↦ refl | CurrentDown ↦ refl ]
same_contents Solid = elim [ Empty ↦ refl | Solid ↦ refl | Water ↦ refl | Slime ↦ refl | Lava ↦ refl | Sky ↦ refl | Current0 ↦ refl | Current90 ↦ refl | Current180 ↦ refl | Current270 ↦ refl | CurrentUp ↦ refl | CurrentDown ↦ refl ]
same_contents Water = elim [ Empty ↦ refl | Solid ↦ refl | Water ↦ refl | Slime ↦ refl | Lava ↦ refl | Sky ↦ refl | Current0 ↦ refl | Current90 ↦ refl | Current180 ↦ refl | Current270 ↦ refl | CurrentUp ↦ refl | CurrentDown ↦ refl ]
same_contents Slime = elim [ Empty ↦ refl | Solid ↦ refl | Water ↦ refl | Slime ↦ refl | Lava ↦ refl | Sky ↦ refl | Current0 ↦ refl | Current90 ↦ refl | Current180 ↦ refl | Current270 ↦ refl | CurrentUp ↦ refl | CurrentDown ↦ refl ]
same_contents Lava = elim [ Empty ↦ refl | Solid ↦ refl | Water ↦ refl | Slime ↦ refl | Lava ↦ refl | Sky ↦ refl | Current0 ↦ refl | Current90 ↦ refl | Current180 ↦ refl | Current270 ↦ refl | CurrentUp ↦ refl | CurrentDown ↦ refl ]
same_contents Sky = elim [ Empty ↦ refl | Solid ↦ refl | Water ↦ refl | Slime ↦ refl | Lava ↦ refl | Sky ↦ refl | Current0 ↦ refl | Current90 ↦ refl | Current180 ↦ refl | Current270 ↦ refl | CurrentUp ↦ refl | CurrentDown ↦ refl ]
same_contents Current0 = elim [ Empty ↦ refl | Solid ↦ refl | Water ↦ refl | Slime ↦ refl | Lava ↦ refl | Sky ↦ refl | Current0 ↦ refl | Current90 ↦ refl | Current180 ↦ refl | Current270 ↦ refl | CurrentUp ↦ refl | CurrentDown ↦ refl ]
same_contents Current90 = elim [ Empty ↦ refl | Solid ↦ refl | Water ↦ refl | Slime ↦ refl | Lava ↦ refl | Sky ↦ refl | Current0 ↦ refl | Current90 ↦ refl | Current180 ↦ refl | Current270 ↦ refl | CurrentUp ↦ refl | CurrentDown ↦ refl ]
same_contents Current180 = elim [ Empty ↦ refl | Solid ↦ refl | Water ↦ refl | Slime ↦ refl | Lava ↦ refl | Sky ↦ refl | Current0 ↦ refl | Current90 ↦ refl | Current180 ↦ refl | Current270 ↦ refl | CurrentUp ↦ refl | CurrentDown ↦ refl ]
same_contents Current270 = elim [ Empty ↦ refl | Solid ↦ refl | Water ↦ refl | Slime ↦ refl | Lava ↦ refl | Sky ↦ refl | Current0 ↦ refl | Current90 ↦ refl | Current180 ↦ refl | Current270 ↦ refl | CurrentUp ↦ refl | CurrentDown ↦ refl ]
same_contents CurrentUp = elim [ Empty ↦ refl | Solid ↦ refl | Water ↦ refl | Slime ↦ refl | Lava ↦ refl | Sky ↦ refl | Current0 ↦ refl | Current90 ↦ refl | Current180 ↦ refl | Current270 ↦ refl | CurrentUp ↦ refl | CurrentDown ↦ refl ]
same_contents CurrentDown = elim [ Empty ↦ refl | Solid ↦ refl | Water ↦ refl | Slime ↦ refl | Lava ↦ refl | Sky ↦ refl | Current0 ↦ refl | Current90 ↦ refl | Current180 ↦ refl | Current270 ↦ refl | CurrentUp ↦ refl | CurrentDown ↦ refl ]

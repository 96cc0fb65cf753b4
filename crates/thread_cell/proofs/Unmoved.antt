-- Lemmas on lanes on which nothing was put or taken.
use Rattle.std.proofs.Common.{List, [], ◌∷◌, refl, ◌∙◌}
use Rattle.thread_cell.specs.declared.link.Link.{Link}
use Rattle.thread_lane.specs.declared.putting.LaneIn.{LaneIn}
use Rattle.thread_lane.specs.Lane.{SameIn}
use Rattle.server_message.specs.declared.stamped.StampedLoad.{StampedLoad}
use Rattle.thread_cell.proofs.Sight.{same-out}
use Rattle.thread_cell.proofs.Walks.{both-map, both-comp}
use Rattle.thread_cell.specs.Links.{Both, IsSameLink, IsUnmoved, IsRoomed}

pub same-refl : (x : Link) → IsSameLink x x
same-refl x = record { neighbour = refl; enter = (((refl, refl, refl, refl), refl), refl); leave = (((refl, refl, refl, refl), refl), refl) }

pub same-in : (x y z : LaneIn StampedLoad) → SameIn x y → SameIn y z → SameIn x z
same-in x y z (((a, b, c, d), m), e) (((a', b', c', d'), m'), e') = (((a' ∙ a, b' ∙ b, c' ∙ c, d' ∙ d), m' ∙ m), e' ∙ e)

pub same-link : (x y z : Link) → IsSameLink x y → IsSameLink y z → IsSameLink x z
same-link x y z a b = record { neighbour = b.neighbour ∙ a.neighbour; enter = same-in x.enter y.enter z.enter a.enter b.enter; leave = same-out x.leave y.leave z.leave a.leave b.leave }

pub unmoved-refl : (x : Link) → IsUnmoved x x
unmoved-refl x = record { same = same-refl x; put = refl; taken = refl }

pub all-unmoved : (xs : List Link) → Both IsUnmoved xs xs
all-unmoved [] = tt
all-unmoved (x ∷ xs) = (unmoved-refl x, all-unmoved xs)

pub roomed-refl : (x : Link) → IsRoomed x x
roomed-refl x = record { unmoved = unmoved-refl x; leave = refl }

pub unmoved-roomed : (xs ys : List Link) → Both IsRoomed xs ys → Both IsUnmoved xs ys
unmoved-roomed xs ys b = both-map IsRoomed IsUnmoved (λ x y r. r.unmoved) xs ys b

pub unmoved-all : (xs ys zs : List Link) → Both IsUnmoved xs ys → Both IsUnmoved ys zs → Both IsUnmoved xs zs
unmoved-all xs ys zs a b = both-comp IsUnmoved IsUnmoved IsUnmoved (λ x y z u v. record { same = same-link x y z u.same v.same; put = v.put ∙ u.put; taken = v.taken ∙ u.taken }) xs ys zs a b

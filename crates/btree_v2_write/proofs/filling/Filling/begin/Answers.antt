-- The front, and the place after it.
use Rattle.btree_v2_write.proofs.Puts.{front_put}
use mathlib.Core.Path.{refl}
use Rattle.btree_v2_write.proofs.filling.Filling.begin.Goals as goal

pub returns : goal.returns
returns c = front_put _ _ c.told-signature c.requires refl c.put_front.ensures refl c.saturating_sub.ensures

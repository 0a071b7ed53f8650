-- Nothing is left, or one field is put.
use Rattle.btree_v2_write.proofs.Puts.{number_none, number_put}
use Rattle.btree_v2_write.proofs.filling.Filling.put_number.Goals as goal
use Rattle.btree_v2_write.proofs.filling.Filling.put_number.Goals.{then-self-gt0, else-self-gt0}
use mathlib.Core.Path.{refl}

pub returns : goal.returns
returns c =
    elim c.if-self-gt0.branch [
      | then-self-gt0 w ↦ number_put _ _ _ _ _ (rw w.self-is at c.pass.ensures) refl refl refl c.requires w.if-self-gt0.true w.write_le.ensures.0
      | else-self-gt0 w ↦ number_none _ _ _ _ _ (rw w.self-is at c.pass.ensures) refl refl refl w.if-self-gt0.false refl
    ]

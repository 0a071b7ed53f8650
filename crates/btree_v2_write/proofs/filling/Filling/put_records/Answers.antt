-- As many records as are left, in one copy.
use Rattle.btree_v2_write.proofs.Puts.{records_put_lem}
use mathlib.Core.Path.{refl}
use Rattle.btree_v2_write.proofs.filling.Filling.put_records.Goals as goal

pub returns : goal.returns
returns c = records_put_lem _ _ _ _ _ _ c.min.ensures c.requires.1 c.requires.0 c.pass.ensures refl refl refl c.copy.ensures refl

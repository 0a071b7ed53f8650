-- `put_records`: all records fit.
use Rattle.std.proofs.Common.{refl}
use Rattle.btree_v2_collect.proofs.Putting.{put_all}
use Rattle.btree_v2_collect.proofs.collect.Walk.put_records.Goals as goal

pub returns : goal.returns
returns c = record { walked = search put_all; tree = refl; output = refl }

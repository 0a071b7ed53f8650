-- `check_rest`, by the verdict on the checksum.
use Rattle.btree_v2_header.proofs.Headers.{rest_is}
use Rattle.read_checks.proofs.Checks.{bytes_there}
use borrow.Author.Rules.{rules}
use Rattle.btree_v2_header.proofs.HeaderAt.check_rest.Goals as goal

pub returns : goal.returns
returns c = search (rules, rest_is, bytes_there)

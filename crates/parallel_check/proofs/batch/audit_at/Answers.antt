use Rattle.std.proofs.Common.{get_or}
use Rattle.std.proofs.lemmas.Option.{slice_get-get_or}
use Rattle.parallel_check.proofs.batch.audit_at.Goals as goal

pub audit_knowing-requires : goal.audit_knowing-requires
audit_knowing-requires g c = c.in-Some.ensures _ c.requires.known

pub returns-in-Some : goal.returns-in-Some
returns-in-Some g c = record {
  certificate = get_or c.args.batch.now.certificates.now c.args.index c.index-batch-index.result;
  here = slice_get-get_or c.args.batch.now.certificates.now c.args.index _ c.requires.index;
  verdict = c.audit_knowing.ensures.verdict;
}

pub returns-in-None : goal.returns-in-None
returns-in-None g c = record {
  certificate = get_or c.args.batch.now.certificates.now c.args.index c.index-batch-index.result;
  here = slice_get-get_or c.args.batch.now.certificates.now c.args.index _ c.requires.index;
  verdict = c.audit.ensures.verdict;
}

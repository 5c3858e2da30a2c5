use Rattle.seg_receiver.specs.CellStream.{view_of}
use Rattle.seg_receiver.proofs.UnreadStreams.{read_alike}
use Rattle.seg_receiver.proofs.UnreadViews.{outcome-alike, product-alike}
use Rattle.seg_receiver.proofs.unread_laws.unread_law.Goals as goal

pub returns : goal.returns
returns c = record {
  outcome = λ how s t aim limit count fault differ outcome. outcome-alike (view_of how s) (view_of how t) (read_alike how.fix how.form s t differ) aim limit count fault outcome;
  written = λ how s t aim limit count fault differ outcome. product-alike (view_of how s) (view_of how t) (read_alike how.fix how.form s t differ) aim limit count outcome.before;
}

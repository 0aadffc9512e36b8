use Rattle.calls.proofs.OneBook.{one_book}
use Rattle.calls.proofs.one_book.Goals as goal

pub returns : goal.returns
returns g c = record { theorem = one_book g.K.Kind.levels g.K.Kind.TOP g.A.Algebra.model g.A.Algebra.means }

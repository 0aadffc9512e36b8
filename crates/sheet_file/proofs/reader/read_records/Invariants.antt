use Rattle.std.proofs.Common.{length}
use Rattle.sheets.specs.Sheets.{bay_standing, bay_storage}
use Rattle.sheet_file.specs.Layout.{form}
use Rattle.sheet_file.proofs.Reached.{Reached}
use Rattle.sheet_file.proofs.reader.read_records.Given as goal

abbrev pub invariant-loop-rest : goal.invariant-loop-rest
invariant-loop-rest g l =
    let f = form g.K.Filed.BYTE g.K.Kind.TOP g.K.Filed.width g.K.Filed.coded g.K.Kind.levels in
    Reached f (bay_storage l.initial.sheet) l.input l.rest l.record l.threshold.of (bay_standing l.sheet) (bay_storage l.sheet)

abbrev pub decreases-loop-rest : goal.decreases-loop-rest
decreases-loop-rest g l = length l.rest

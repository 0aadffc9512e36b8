-- A byte that stands for no kind does not stand for graded. Assumes nothing.
use Rattle.std.proofs.Common.{rules, ◌≡◌, slice_index, sym, ◌∙◌, subst}
use Rattle.sheet_file.specs.Kinds.{Decodes}
use Rattle.sheet_file.specs.declared.kind.FileKind.TheVariants.{Graded}
use Rattle.reports.proofs.whole.is_graded.Goals as goal

pub returns-in_default-2 : goal.returns-in_default-2
returns-in_default-2 c =
    let unknown = subst (λ r. Decodes c.in-Some.byte.now r) c.in_default.is c.try_from.ensures in
    let read : slice_index c.args.input.now 2 ≡ c.in-Some.byte.now = search rules in
    record { answer = (λ e. absurd (cc), λ two. absurd (unknown.1 Graded (sym (sym read ∙ two)))) }

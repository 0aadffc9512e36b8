-- One line more. Assumes nothing.
use Rattle.std.proofs.Common.{◌≡◌, ℕ, zero, suc, ◌≤◌, ◌-◌, List, ◌++◌, ap, ◌∙◌, append_assoc, arith}
use Rattle.brackets.specs.declared.ends.Ends.{Ends}
use Rattle.reports.specs.Lines.{depth_line, depth_lines}

pub depths_more : (e : ℕ → Ends) (t depth : ℕ) (before : List ℕ) → 1 ≤ depth
    → (before ++ depth_lines e t (depth - 1)) ++ depth_line (e depth) t depth ≡ before ++ depth_lines e t depth
depths_more e t zero before least = absurd (omega arith)
depths_more e t (suc k) before least =
    let last : suc k - 1 ≡ k = omega arith in
    ap (λ n. (before ++ depth_lines e t n) ++ depth_line (e (suc k)) t (suc k)) last
    ∙ append_assoc before (depth_lines e t k) (depth_line (e (suc k)) t (suc k))

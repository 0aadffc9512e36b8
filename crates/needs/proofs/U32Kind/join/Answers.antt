use Rattle.std.proofs.Common.{◌≡◌, ℕ, zero, suc, ◌+◌, ◌*◌, ◌%◌, ◌^◌, ◌<◌, bit_or, refl, subst, rules, arith}
use Rattle.std.specs.List.{fold, range_with_len}
use Rattle.std.proofs.iter.Yields.{nat_range_steps}
use Rattle.std.proofs.lemmas.List.Sums.{fold_push}
use Rattle.std.proofs.lemmas.Fn.{fold_over}
use Rattle.std.proofs.lemmas.Iterator.{YieldsList-from_range}
use Rattle.needs.specs.Levels.{digit, join, width}
use Rattle.needs.proofs.Digits.{Coded, coded_more, coded_all, join_past, put_or}
use Rattle.needs.proofs.U32Kind.join.Goals as goal

module _ (a b : ℕ) where
  abbrev both : ℕ → ℕ
  both = join (digit 4 a) (digit 4 b)

  -- what a call of the closure makes of the code so far
  abbrev put : ℕ → ℕ → ℕ
  put code i = bit_or code (both i * 2 ^ (2 * i) % 2 ^ 32)

  -- `|` puts the greater of the two levels above what is joined so far
  coded_fold : (left i code : ℕ) → i + left ≡ width → Coded 4 i both code
      → Coded 4 width both (fold put code (range_with_len i left))
  coded_fold zero i code all held = subst (λ k. Coded 4 k both code) (omega arith) held
  coded_fold (suc left) i code all held =
      let level : both i < 4 = omega arith in
      coded_fold left (i + 1) (put code i) (omega arith)
      (rw (put_or 2 32 _ _ _ held.0 level (omega arith)) (coded_more 4 (omega arith) _ _ _ _ held level refl))

-- past the width there is no level to join
pub returns : goal.returns
returns c =
    let step = put c.args.self c.args.other in
    let folded : c.fold.result ≡ fold step 0 (range_with_len 0 width)
    = fold_over nat_range_steps (λ i. i) _ (λ is code. code ≡ fold step 0 is) _
    (λ is code i next f held called.
    let stepped : next ≡ step code i = search rules in (rw (fold_push step 0 is i, ← held) stepped, search rules))
    _ (range_with_len 0 width) _ _ (YieldsList-from_range 0 width width refl (omega arith)).runs refl c.fold.ensures.ran in
    let coded = coded_fold c.args.self c.args.other width 0 0 (omega arith) (omega arith, λ i none. omega arith) in
    record {
      answer = coded_all 4 (omega arith) width _ _ (rw folded coded)
          (λ i past. join_past 4 (omega arith) width _ _ i (omega arith) (omega arith) past);
    }

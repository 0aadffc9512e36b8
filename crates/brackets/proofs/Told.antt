-- What a pair holds and what a verdict tells, once the bracket is known to lie around the reliability. Assumes nothing.
use Rattle.std.proofs.Common.{◌≡◌, ℕ, ◌*◌, ◌^◌, ◌≤◌, Bool, true, false, cond, List, length, ℤ, pos, ◌≤ℤ◌, ◌<ℤ◌, sym, refl, subst}
use Rattle.std.proofs.lemmas.Bool.{false≢true}
use Rattle.needs.specs.Levels.{Need}
use Rattle.totals.specs.Choices.{Setting}
use Rattle.inclusion_exclusion.specs.Reliability.{reliability}
use Rattle.inclusion_exclusion.specs.Bonferroni.{low, high, is_sound, wants_attention, Holds, Inside, Bracketed, Judged}
use Rattle.inclusion_exclusion.proofs.Bonferroni.{pair_within}
use Rattle.brackets.specs.Brackets.{ends, pair, verdict, Tells, Decided}
use Rattle.brackets.specs.declared.verdict.Verdict.{Verdict}
use Rattle.brackets.specs.declared.verdict.Verdict.TheVariants.{Sound, Attention, Undecided}

told : (e : ℤ) (t : ℕ) (sound attention : Bool) → (sound ≡ true → pos (t * 2 ^ 33) ≤ℤ e) → (attention ≡ true → e <ℤ pos (t * 2 ^ 33))
    → Tells e t (cond sound Sound (cond attention Attention Undecided))
told e t true attention reaches fails = reaches refl
told e t false true reaches fails = fails refl
told e t false false reaches fails = tt

decided : (sound attention : Bool) → (sound ≡ false → attention ≡ true) → Decided (cond sound Sound (cond attention Attention Undecided))
decided true attention one = tt
decided false true one = tt
decided false false one = absurd (false≢true (one refl))

module _ (s : Setting) (ds : List Need) (bracketed : Bracketed s ds) (depth : ℕ) (p : ℕ × ℕ) (is : p ≡ pair (ends s ds depth)) where
  pub pair_holds : Holds p (reliability s ds)
  pair_holds = subst (λ q. Holds q (reliability s ds)) (sym is) (bracketed.holds depth)

  pub deeper_inside : (deeper : ℕ) → depth ≤ deeper → Inside (pair (ends s ds deeper)) p
  deeper_inside deeper more = subst (Inside (pair (ends s ds deeper))) (sym is) (bracketed.inside depth deeper more)

  pub pair_bound : (p.0 ≤ 2 ^ 32) × (p.1 ≤ 2 ^ 32)
  pair_bound = subst (λ q. (q.0 ≤ 2 ^ 32) × (q.1 ≤ 2 ^ 32)) (sym is) (pair_within s ds bracketed depth)

module _ (s : Setting) (ds : List Need) (judged : Judged s ds) (depth t : ℕ) (v : Verdict) (is : v ≡ verdict (ends s ds depth) t) where
  pub verdict_tells : Tells (reliability s ds) t v
  verdict_tells =
      subst (Tells (reliability s ds) t) (sym is)
      (told (reliability s ds) t (is_sound (low s ds depth) t) (wants_attention (high s ds depth) t) (judged.sound depth t) (judged.attention depth t))

  pub verdict_decides : length ds ≤ depth → Decided v
  verdict_decides full = subst Decided (sym is) (decided (is_sound (low s ds depth) t) (wants_attention (high s ds depth) t) (judged.decides depth t full))

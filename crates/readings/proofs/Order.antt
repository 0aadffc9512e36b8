-- The tests `<=` and `<` of floats, and of a range of them. Assumes nothing.
use Rattle.std.proofs.Common.{◌≡◌, Bool, true, false, not, cond, Some, None, Less, Equal, Greater, refl, sym, ◌∙◌}
use lib.Ieee.{Float, lt, eq, le}
use Rattle.std.specs.Prelude.{T, ◌||◌}
use Rattle.std.specs.Float.{NotNan}
use Rattle.std.specs.Ordering.{is_le, is_some_and, partial_le, float_partial_cmp}
use Rattle.std.proofs.lemmas.Float.{lt_irrefl, lt_of_lt_of_le, le_of_not-lt, T_from_true, T_from_false}

true_from_T : (b : Bool) → T b → b ≡ true
true_from_T true t = refl
true_from_T false t = absurd t

pub le_is_not_lt : (x y : Float) → NotNan x → NotNan y → (less most : Bool) → lt x y ≡ less → le y x ≡ most → most ≡ not less
le_is_not_lt x y nx ny true true less most = absurd (lt_irrefl x (lt_of_lt_of_le x y x (T_from_true _ less) (T_from_true _ most)))
le_is_not_lt x y nx ny true false less most = refl
le_is_not_lt x y nx ny false true less most = refl
le_is_not_lt x y nx ny false false less most = sym most ∙ true_from_T _ (le_of_not-lt x y nx ny (T_from_false _ less))

by_tests : (less same more : Bool) → is_some_and is_le (cond less (Some Less) (cond same (Some Equal) (cond more (Some Greater) None))) ≡ (less || same)
by_tests true same more = refl
by_tests false true more = refl
by_tests false false true = refl
by_tests false false false = refl

pub partial_le_is : (x y : Float) → partial_le float_partial_cmp x y ≡ le x y
unfolding le
partial_le_is x y = by_tests (lt x y) (eq x y) (lt y x)

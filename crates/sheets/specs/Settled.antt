-- What is always so of a sheet's standing: the type of a sheet, in the bay and on the road, keeps it as a fact.
--
-- clutter    no held need covers another
-- known      no held need asks anything of a component that the sheet has not
-- asking     every held need asks something
-- spare      the rows of components that the sheet has not are blank
-- neat       no weight is noted above the top level
use Rattle.std.specs.Prelude.{◌≡◌, ℕ, ◌<◌, ◌≤◌, [], map, length, replicate, slice_index_or}
use Rattle.needs.specs.Levels.{Need, Covers}
use Rattle.weights.specs.Chances.{trimmed}
use Rattle.sheets.specs.Standings.{Standing}
use Rattle.sheets.specs.Causes.{AsksFrom}

pub record Settled {K : Type 0} (levels : K → Need) (top : ℕ) (s : Standing K) : Type 0 where
  pub clutter : (p q : ℕ) → p < length s.needs → q < length s.needs
      → Covers (slice_index_or (map levels s.needs) p (λ i. 0)) (slice_index_or (map levels s.needs) q (λ i. 0)) → p ≡ q
  pub known : (p : ℕ) → p < length s.needs → AsksFrom s.components (slice_index_or (map levels s.needs) p (λ i. 0)) → ⊥
  pub asking : (p : ℕ) → p < length s.needs → AsksFrom 0 (slice_index_or (map levels s.needs) p (λ i. 0))
  pub spare : (i : ℕ) → s.components ≤ i → i < 8 → slice_index_or s.card i [] ≡ replicate 3 0
  pub neat : (i : ℕ) → i < 8 → trimmed top (slice_index_or s.card i []) ≡ slice_index_or s.card i []

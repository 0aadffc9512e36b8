-- What a need asks of the components of a trailer, and how needs compare.
--
-- level      how well a component works, from 0 (dead) to the top of its kind
-- need       a least level for each component
-- join       the need that asks, of each component, the greater of two levels
-- covers     a need covers another when it asks at least as much of every component
-- same       two needs that ask the same of every component
use Rattle.std.specs.Prelude.{◌≡◌, ℕ, ◌/◌, ◌%◌, ◌^◌, ◌<◌, ◌≤◌, max}

abbrev pub Need : Type 0
Need = ℕ → ℕ

-- a need has sixteen levels, though a sheet has at most eight components
abbrev pub width : ℕ
width = 16

abbrev pub join : Need → Need → Need
join d e i = max (d i) (e i)

abbrev pub Covers : Need → Need → Type 0
Covers d e = (i : ℕ) → i < width → e i ≤ d i

abbrev pub Same : Need → Need → Type 0
Same d e = (i : ℕ) → i < width → d i ≡ e i

-- the need that a number codes, one digit in the given base for each component, the lowest first
abbrev pub digit : ℕ → ℕ → Need
digit base code i = (code / base ^ i) % base

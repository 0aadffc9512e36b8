-- A book that is kept call by call, so far as the list was sent. Assumes nothing.
use Rattle.std.proofs.Common.{◌≡◌, ℕ, suc, ◌+◌, ◌<◌, ◌≤◌, cond, leb, List, length, get_or, drop, set, sym, refl, ap, ◌∙◌, subst, inl, inr, add-one, arith, length-set, get_or-set_other, get_or-set_same, drop-drop, drop-set-lt}
use Rattle.std.proofs.lemmas.Bool.{cases_lt, cond-true, cond-false, le-leb, lt-leb}
use Rattle.needs.specs.declared.Kind.{Ghosts as KindGhosts}
use Rattle.algebras.specs.declared.Algebra.{Ghosts as AlgebraGhosts}
use Rattle.sheets.specs.Standings.{Standing, opened}
use Rattle.calls.specs.declared.call.Call.{Call}
use Rattle.calls.specs.declared.answer.Answer.{Answer}
use Rattle.calls.specs.Book.{Page, page, bay}
use Rattle.calls.specs.Law.{StandsIn, Kept}
use Rattle.calls.specs.Pages.{StepOf, LawOf}
use Rattle.calls.proofs.Places.{one_in_place}
use Rattle.calls.proofs.Lawful.{lawful}
use Rattle.calls.proofs.KeptSound.{kept_sound}

module _ {K A V : Type 0} (kind : KindGhosts K) (own : AlgebraGhosts A V) (places : List K) (calls : List (Call K)) (before : List (Answer K V)) where
  pub record SoFar (sent : ℕ) (here : Page K) (answers : List (Answer K V)) : Type 0 where
    pub book : ℕ → Page K
    pub opens : book 0 ≡ page bay opened places
    pub turns : (p : ℕ) (c : Call K) → p < sent → StandsIn calls p c → (a : Answer K V) × StepOf kind own c (book p) a (book (suc p)) × (p < length answers → StandsIn answers p a)
    pub reached : here ≡ book sent
    pub untouched : (length answers ≡ length before) × (drop sent answers ≡ drop sent before)

  pub begun : SoFar 0 (page bay opened places) before
  begun = record { book = λ p. page bay opened places; opens = refl; turns = λ p c h. absurd (omega arith); reached = refl; untouched = (refl, refl) }

  -- a book with one page more
  abbrev longer : (ℕ → Page K) → (sent : ℕ) → Page K → ℕ → Page K
  longer book sent next p = cond (leb p sent) (book p) next

  old : (book : ℕ → Page K) (sent : ℕ) (next : Page K) (p : ℕ) → p ≤ sent → longer book sent next p ≡ book p
  old book sent next p h = cond-true (leb p sent) (book p) next (le-leb p sent h)

  new : (book : ℕ → Page K) (sent : ℕ) (next : Page K) → longer book sent next (suc sent) ≡ next
  new book sent next = cond-false (leb (suc sent) sent) (book (suc sent)) next (lt-leb (suc sent) sent (omega arith))

  pub sent_more : (sent : ℕ) (here next : Page K) (answers answers' : List (Answer K V)) (c : Call K) (a : Answer K V) → SoFar sent here answers → StandsIn calls sent c
      → StepOf kind own c here a next → answers' ≡ set answers sent a → SoFar (sent + 1) next answers'
  sent_more sent here next answers answers' c a so_far in_place step notes =
      let book = so_far.book in
      let long : length answers' ≡ length answers = ap length notes ∙ length-set answers sent a in
      record {
        book = longer book sent next;
        opens = old book sent next 0 (omega arith) ∙ so_far.opens;
        turns = λ p c' h in-place'. elim (cases_lt p sent) [
          | inl earlier ↦
              let turn = so_far.turns p c' earlier in-place' in (
                turn.0,
                simp (old book sent next p (omega arith), old book sent next (suc p) (omega arith)) turn.1,
                λ within. (within, ap (λ xs. get_or xs p turn.0) notes ∙ get_or-set_other answers sent p a turn.0 (λ same. omega arith) ∙ (turn.2 (omega arith)).1),
              )
          | inr past ↦
              let now : sent ≡ p = omega arith in
              subst (λ q. StandsIn calls q c' → (a' : Answer K V) × StepOf kind own c' (longer book sent next q) a' (longer book sent next (suc q)) × (q < length answers' → StandsIn answers' q a')) now
              (λ in-place''. (
                a,
                subst (λ x. StepOf kind own x (longer book sent next sent) a (longer book sent next (suc sent))) (one_in_place calls sent c c' in_place in-place'')
                    (simp (old book sent next sent (omega arith), new book sent next) (subst (λ b. StepOf kind own c b a next) so_far.reached step)),
                λ within. (within, ap (λ xs. get_or xs sent a) notes ∙ get_or-set_same answers sent a a (omega arith)),
              )) in-place'
        ];
        reached = sym (ap (longer book sent next) (add-one sent) ∙ new book sent next);
        untouched = (
          long ∙ so_far.untouched.0,
          ap (drop (sent + 1)) notes ∙ drop-set-lt (sent + 1) answers sent a (omega arith) ∙ sym (drop-drop 1 sent answers) ∙ ap (drop 1) so_far.untouched.1 ∙ drop-drop 1 sent before,
        );
      }

  -- the whole list was sent
  pub law : (low : kind.TOP ≤ 3) (most : (d : K) (i : ℕ) → kind.levels d i ≤ kind.TOP) (sent : ℕ) (here : Page K) (answers : List (Answer K V)) (s : Standing K) (storage : List K) → sent ≡ length calls
      → SoFar sent here answers → s ≡ here.standing → storage ≡ here.storage → LawOf kind own places calls before answers s storage
  law low most sent here answers s storage all so_far stands stores =
      let kept : Kept kind.levels kind.TOP own.model own.means places calls answers so_far.book = record { opens = so_far.opens; turns = λ p c in_place. so_far.turns p c (omega (arith, in_place.0)) in_place } in
      let reached = so_far.reached ∙ ap so_far.book all in
      record {
        book = so_far.book;
        kept = kept;
        stands = stands ∙ ap (λ b. b.standing) reached;
        stores = stores ∙ ap (λ b. b.storage) reached;
        lawful = lawful kind.levels kind.TOP own.model own.means low most places calls answers so_far.book kept (kept_sound kind.levels kind.TOP own.model own.means places calls answers so_far.book kept);
        untouched = subst (λ n. (length answers ≡ length before) × (drop n answers ≡ drop n before)) all so_far.untouched;
      }

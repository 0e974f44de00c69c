-- The table of procedures: those up to a place are read and their places stand in the table, one more with each turn.
-- What is left of the rows is read by what is left of the limit, so that at the end the whole is read.
use Rattle.std.proofs.Common.{◌≡◌, ℕ, zero, suc, ◌+◌, ◌-◌, ◌<◌, ◌≤◌, T, List, [], ◌∷◌, ◌++◌, length, take, drop, set, Some, None, Option, sym, refl, ap, ◌∙◌, subst, append_assoc, append-nil, arith}
use Rattle.std.proofs.lemmas.List.{drop_all, length-append, length-drop, take_more_set, take-append-le}
use Rattle.owned.specs.Program.{Proc, Prog}
use Rattle.owned.specs.Rows.{row_p, ok_p}
use Rattle.owned.specs.Decode.{Hit, read_p, read_ps, before, onto}
use Rattle.owned.specs.Ends.{Ended, Placed, Whole}
use Rattle.owned.proofs.Chains.{Good}
use Rattle.owned.proofs.Programs.{sound_p}

-- what stands before the others
abbrev pub onto_all : Prog → Option Prog → Option Prog
onto_all g None = None
onto_all g (Some h) = Some (g ++ h)

-- n procedures up to the place i
pub record Filled (ws ts : List ℕ) (i n : ℕ) : Type 0 where
  pub within : i ≤ length ws
  pub few : n ≤ 64
  pub g : Prog
  pub many : length g ≡ n
  pub placed : Placed ws (take n ts) g
  pub left : read_ps 64 ws ≡ onto_all g (read_ps (64 - n) (drop i ws))

reads_cons : (k : ℕ) (us : List ℕ) → 0 < k → 0 < length us → read_ps k us ≡ before (read_p us) (λ vs. read_ps (k - 1) vs)
reads_cons zero us l h = absurd (omega arith)
reads_cons (suc k) [] l h = absurd (omega arith)
reads_cons (suc k) (u ∷ us) l h = let e : suc k - 1 ≡ k = omega arith in rw e

reads_zero : (us : List ℕ) → 0 < length us → read_ps 0 us ≡ None
reads_zero [] h = absurd (omega arith)
reads_zero (u ∷ us) h = refl

reads_nil : (k : ℕ) → read_ps k [] ≡ Some []
reads_nil zero = refl
reads_nil (suc k) = refl

onto_more : (g : Prog) (p : Proc) (r : Option Prog) → onto_all g (onto p r) ≡ onto_all (g ++ (p ∷ [])) r
onto_more g p None = refl
onto_more g p (Some h) = ap (λ l. Some l) (sym (append_assoc g (p ∷ []) h))

placed_more : (ws ts : List ℕ) (g : Prog) (t : ℕ) (p : Proc) → Placed ws ts g → (rest : List ℕ) × (drop t ws ≡ row_p p rest) → Placed ws (ts ++ (t ∷ [])) (g ++ (p ∷ []))
placed_more ws [] [] t p h k = (k, tt)
placed_more ws [] (q ∷ qs) t p h k = absurd h
placed_more ws (u ∷ us) [] t p h k = absurd h
placed_more ws (u ∷ us) (q ∷ qs) t p h k = (h.0, placed_more ws us qs t p h.1 k)

-- what was read there
read_none : (ws : List ℕ) (r : Hit Proc) → Ended ws r None → r ≡ None
read_none ws None h = refl
read_none ws (Some p) h = absurd h

read_some : (ws us : List ℕ) (r : Hit Proc) (j : ℕ) → Ended ws r (Some j) → Good (λ p vs. (us ≡ row_p p vs) × T (ok_p p)) r → (p : Proc) × (r ≡ Some (p, drop j ws)) × (us ≡ row_p p (drop j ws)) × (j ≤ length ws)
read_some ws us None j h g = absurd h
read_some ws us (Some p) j h g = (p.0, ap (λ vs. Some (p.0, vs)) h.0, g.0 ∙ ap (λ vs. row_p p.0 vs) h.0, h.1)

pub filled_begin : (ws ts : List ℕ) → Filled ws ts 0 0
filled_begin ws ts = record { within = omega arith; few = omega arith; g = []; many = refl; placed = tt; left = onto_none (read_ps 64 ws) }
  where
    onto_none : (r : Option Prog) → r ≡ onto_all [] r
    onto_none None = refl
    onto_none (Some h) = refl

-- words past the first n of the table make no difference
pub filled_before : (ws ts us : List ℕ) (i n : ℕ) → n ≤ length ts → Filled ws ts i n → Filled ws (ts ++ us) i n
filled_before ws ts us i n l f = record {
  within = f.within;
  few = f.few;
  g = f.g;
  many = f.many;
  placed = subst (λ vs. Placed ws vs f.g) (sym (take-append-le n ts us l)) f.placed;
  left = f.left;
}

module _ (ws ts : List ℕ) (i n : ℕ) (f : Filled ws ts i n) where
  pub filled_end : length ws ≤ i → Whole ws ts n
  filled_end l = record {
    g = f.g;
    many = f.many;
    few = f.few;
    placed = f.placed;
    read = f.left ∙ ap (λ us. onto_all f.g (read_ps (64 - n) us)) (drop_all i ws l) ∙ ap (λ r. onto_all f.g r) (reads_nil (64 - n)) ∙ ap (λ l. Some l) (append-nil f.g);
  }

  module _ (l : i < length ws) where
    some_left : 0 < length (drop i ws)
    some_left = omega (arith, length-drop i ws)

    pub filled_full : n ≡ 64 → read_ps 64 ws ≡ None
    filled_full e =
        let z : 64 - n ≡ 0 = omega arith in
        f.left ∙ ap (λ k. onto_all f.g (read_ps k (drop i ws))) z ∙ ap (λ r. onto_all f.g r) (reads_zero (drop i ws) some_left)

    module _ (o : n < 64) where
      next : read_ps 64 ws ≡ onto_all f.g (before (read_p (drop i ws)) (λ vs. read_ps (64 - n - 1) vs))
      next = f.left ∙ ap (λ r. onto_all f.g r) (reads_cons (64 - n) (drop i ws) (omega arith) some_left)

      pub filled_none : Ended ws (read_p (drop i ws)) None → read_ps 64 ws ≡ None
      filled_none e = next ∙ ap (λ r. onto_all f.g (before r (λ vs. read_ps (64 - n - 1) vs))) (read_none ws (read_p (drop i ws)) e)

      pub filled_more : (j : ℕ) → 64 ≤ length ts → Ended ws (read_p (drop i ws)) (Some j) → Filled ws (set ts n i) j (n + 1)
      filled_more j m e =
          let u = read_some ws (drop i ws) (read_p (drop i ws)) j e (sound_p (drop i ws)) in
          let z : 64 - n - 1 ≡ 64 - (n + 1) = omega arith in
          record {
            within = u.3;
            few = omega arith;
            g = f.g ++ (u.0 ∷ []);
            many = length-append f.g (u.0 ∷ []) ∙ ap (λ k. k + 1) f.many;
            placed = subst (λ us. Placed ws us (f.g ++ (u.0 ∷ []))) (sym (take_more_set ts n i (omega arith))) (placed_more ws (take n ts) f.g i u.0 f.placed (drop j ws, u.2));
            left = next ∙ ap (λ r. onto_all f.g (before r (λ vs. read_ps (64 - n - 1) vs))) u.1 ∙ onto_more f.g u.0 (read_ps (64 - n - 1) (drop j ws)) ∙ ap (λ k. onto_all (f.g ++ (u.0 ∷ [])) (read_ps k (drop j ws))) z;
          }

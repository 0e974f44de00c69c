-- A procedure's frame as it begins: the arguments, the other variables 0.
use Rattle.std.proofs.Common.{◌≡◌, ℕ, zero, suc, ◌+◌, ◌-◌, ◌*◌, ◌<◌, ◌≤◌, Bool, true, false, cond, eqb, ◌⊎◌, List, [], ◌∷◌, ◌++◌, length, get_or, take, drop, refl, ap, inl, inr, arith, length-append, length-drop}
use Rattle.std.proofs.lemmas.List.{get_or_append_left, get_or-append_right}
use Rattle.owned.specs.Runs.{Val, n, nothing, blank}
use Rattle.machine.specs.Memory.{Control, Memory, entered}
use Rattle.machine.specs.Represents.{Means, Vars}
use Rattle.machine.specs.Calls.{Blanked}

-- the words G are those of F, but for those from b + n on, which are 0 up to b + k; and maybe those between b and b + n
pub record Zeroed (b n k : ℕ) (F G : List ℕ) : Type 0 where
  pub long : length G ≡ length F
  pub below : take b G ≡ take b F
  pub kept : (i : ℕ) → i < n → get_or G (b + i) 0 ≡ get_or F (b + i) 0
  pub zeros : (i : ℕ) → n ≤ i → i < k → get_or G (b + i) 0 ≡ 0

module _ (c : Control) {c₁ : Control} {m m₁ : Memory} (f : ℕ) (hc : c₁ ≡ entered c f m.frames) (hm : m₁ ≡ m) where
  pub open_room : c.base + 40 + get_or c.code.procs (8 * f + 1) 0 ≤ length m.frames → c₁.base + get_or c.code.procs (8 * f + 1) 0 ≤ length m₁.frames
  open_room l = rw (hc, hm) l

-- variables that nothing was put into mean 0
blank_means : (ks : List ℕ) (x : ℕ) → Means (get_or (blank ks) x nothing) 0
blank_means [] x = refl
blank_means (k ∷ ks) zero = one (eqb k 0)
  where
    one : (t : Bool) → Means (cond t (n 0) nothing) 0
    one true = refl
    one false = refl
blank_means (k ∷ ks) (suc x) = blank_means ks x

pub length_blank : (ks : List ℕ) → length (blank ks) ≡ length ks
length_blank [] = refl
length_blank (k ∷ ks) = ap suc (length_blank ks)

-- all of a procedure's variables
pub opened_long : (vs : List Val) (ks : List ℕ) → length vs ≤ length ks → length (vs ++ blank (drop (length vs) ks)) ≡ length ks
opened_long vs ks l = omega (arith, length-append vs (blank (drop (length vs) ks)), length_blank (drop (length vs) ks), length-drop (length vs) ks)

pub opened_vars : (vs : List Val) (ks : List ℕ) (b k : ℕ) (m m₁ : Memory) → length vs ≤ length ks → k ≡ length ks → b + k ≤ length m.frames → Vars vs m.frames b → Blanked b (length vs) k m m₁ → Vars (vs ++ blank (drop (length vs) ks)) m₁.frames b
opened_vars vs ks b k m m₁ l ek lr r h = record { room = omega (arith, h.long, opened_long vs ks l); each = λ x q. at_place x (omega (arith, q, opened_long vs ks l)) (side x (length vs)) }
  where
    side : (x y : ℕ) → (x < y) ⊎ (y ≤ x)
    side x zero = inr (omega arith)
    side zero (suc y) = inl (omega arith)
    side (suc x) (suc y) = elim (side x y) [ inl e ↦ inl (omega arith) | inr e ↦ inr (omega arith) ]

    at_place : (x : ℕ) → x < length ks → (x < length vs) ⊎ (length vs ≤ x) → Means (get_or (vs ++ blank (drop (length vs) ks)) x nothing) (get_or m₁.frames (b + x) 0)
    at_place x q (inl s) = rw (get_or_append_left vs (blank (drop (length vs) ks)) nothing x s, h.kept x s) (r.each x s)
    at_place x q (inr s) = rw (get_or-append_right vs (blank (drop (length vs) ks)) (length vs) x nothing refl s, h.zeros x s (omega arith)) (blank_means (drop (length vs) ks) (x - length vs))

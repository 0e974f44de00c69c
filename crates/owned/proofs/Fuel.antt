-- With more fuel than turns left, the fuel of a statement does not matter: each turn of a loop takes one of both.
-- So what a statement does can be said without any: `does`.
use Rattle.std.proofs.Common.{◌≡◌, ℕ, zero, suc, ◌<◌, ◌≤◌, cond, eqb, refl, ap, ◌∙◌, ap₂, arith}
use Rattle.owned.specs.Program.{E, S, Sig}
use Rattle.owned.specs.Runs.{St, R, fine, fault, full, spent, deep, bind, value, num, with_left, Chooser, turn_at, exec, run_s}
use Rattle.owned.proofs.Turns.{Call, AtMost, CallAtMost, at_most_exec, at_most_run_s}

same_bind : (l : ℕ) (r r' : R) (k k' : St → R) → AtMost l r → r ≡ r' → ((t : St) → t.left ≤ l → k t ≡ k' t) → bind r k ≡ bind r' k'
same_bind l r r' k k' h e g = go r h ∙ ap (λ q. bind q k') e
  where
    go : (q : R) → AtMost l q → bind q k ≡ bind q k'
    go (fine t) h = g t h
    go (fault f) h = refl
    go full h = refl
    go spent h = refl
    go deep h = refl

same_turn_at : (m : ℕ) (s : St) (k k' : St → R) → ((i : ℕ) → i < m → k (with_left s i) ≡ k' (with_left s i)) → turn_at m s k ≡ turn_at m s k'
same_turn_at zero s k k' g = refl
same_turn_at (suc m) s k k' g = g m (omega arith)

module _ (ch : Chooser) (p : Sig) (x : Call) (hx : CallAtMost x) where
  -- two ways to go on with loops that agree wherever fewer than l turns are left
  module _ (w w' : E → S → St → R) (hw : (e : E) (b : S) (t : St) → AtMost t.left (w e b t)) (l : ℕ) (same : (e : E) (b : S) (t : St) → t.left < l → w e b t ≡ w' e b t) where
    same_exec : (a : S) (s : St) → s.left ≤ l → exec ch p x w a s ≡ exec ch p x w' a s
    same_exec S.skip s h = refl
    same_exec (S.then a b) s h = same_bind l _ _ _ _ (at_most_exec ch p x hx w hw l a s h) (same_exec a s h) (λ t e. same_exec b t e)
    same_exec (S.set i e) s h = refl
    same_exec (S.box i j) s h = refl
    same_exec (S.unbox i j) s h = refl
    same_exec (S.look i j) s h = refl
    same_exec (S.fill i j) s h = refl
    same_exec (S.move i j) s h = refl
    same_exec (S.drop i) s h = refl
    same_exec (S.if e a b) s h = ap₂ (λ r r'. num (value s e) (λ k. cond (eqb k 0) r r')) (same_exec b s h) (same_exec a s h)
    same_exec (S.while e a) s h =
        ap (λ r. num (value s e) (λ k. cond (eqb k 0) (fine s) r)) (same_turn_at s.left s _ _
        (λ i lt. same_bind i _ _ _ _ (at_most_exec ch p x hx w hw i a (with_left s i) (omega arith)) (same_exec a (with_left s i) (omega arith)) (λ u f. same e a u (omega arith))))
    same_exec (S.call i f as₁) s h = refl
    same_exec (S.show e) s h = refl

  fuel : (j j' : ℕ) (a : S) (s : St) → s.left < j → s.left < j' → run_s ch p x j a s ≡ run_s ch p x j' a s
  fuel zero j' a s h h' = absurd (omega arith)
  fuel (suc j) zero a s h h' = absurd (omega arith)
  fuel (suc j) (suc j') a s h h' =
      same_exec (λ e b t. run_s ch p x j (S.while e b) t) (λ e b t. run_s ch p x j' (S.while e b) t) (λ e b t. at_most_run_s ch p x hx j (S.while e b) t) s.left
      (λ e b t lt. fuel j j' (S.while e b) t (omega arith) (omega arith)) a s (omega arith)

-- a loop has as many turns as are left
abbrev pub loop : Chooser → Sig → Call → E → S → St → R
loop ch p x e b t = run_s ch p x (suc t.left) (S.while e b) t

-- what a statement does
abbrev pub does : Chooser → Sig → Call → S → St → R
does ch p x a s = exec ch p x (loop ch p x) a s

pub does_run : (ch : Chooser) (p : Sig) (x : Call) → CallAtMost x → (a : S) (s : St) → run_s ch p x (suc s.left) a s ≡ does ch p x a s
does_run ch p x hx a s =
    same_exec ch p x hx (λ e b t. run_s ch p x s.left (S.while e b) t) (loop ch p x) (λ e b t. at_most_run_s ch p x hx s.left (S.while e b) t) s.left
    (λ e b t lt. fuel ch p x hx s.left (suc t.left) (S.while e b) t lt (omega arith)) a s (omega arith)

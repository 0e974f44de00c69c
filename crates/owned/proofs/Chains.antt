-- Decoders one after the other: what is known of each holds of the whole, in both directions.
-- `Sound` says that what was read was written there, `Complete` that what was written is read.
use Rattle.std.proofs.Common.{◌≡◌, ℕ, zero, suc, ◌≤◌, Bool, true, false, ◌&&◌, T, ltb, leb, List, [], ◌∷◌, ◌++◌, length, get_or, drop, Some, None, Option, refl, ap, ◌∙◌, arith, leb→le}
use Rattle.owned.specs.declared.decode.Shape.{Shape}
use Rattle.owned.specs.Decode.{Hit, chain, guard, Tuple, many, list_t, fits, word, below1}

pub and_t : (a b : Bool) → T a → T b → T (a && b)
and_t true b h k = k
and_t false b h k = h

pub T_and : (a b : Bool) → T (a && b) → T a × T b
T_and true b h = (tt, h)
T_and false b h = absurd h

-- what is known of what was read
abbrev pub Good : {A : Type 0} → (A → List ℕ → Type 0) → Hit A → Type 0
Good R None = Unit {0}
Good R (Some p) = R p.0 p.1

pub bind : {A B : Type 0} (R : A → List ℕ → Type 0) (Q : B → List ℕ → Type 0) (r : Hit A) (k : A → List ℕ → Hit B) → Good R r → ((a : A) (us : List ℕ) → R a us → Good Q (k a us)) → Good Q (chain r k)
bind R Q None k g f = tt
bind R Q (Some p) k g f = f p.0 p.1 g

pub guarded : {A : Type 0} (Q : A → List ℕ → Type 0) (b : Bool) (r : Hit A) → (T b → Good Q r) → Good Q (guard b r)
guarded Q true r f = f tt
guarded Q false r f = tt

pub passed : {A : Type 0} (b : Bool) (r : Hit A) → T b → guard b r ≡ r
passed true r h = refl
passed false r h = absurd h

-- what holds of each part
abbrev pub AllT : {A : Type 0} → (A → Type 0) → (n : ℕ) → Tuple A n → Type 0
AllT P zero ts = Unit {0}
AllT P (suc n) ts = P ts.0 × AllT P n ts.1

-- the words of n things, before the others
abbrev pub row_t : {A : Type 0} → (A → List ℕ) → (n : ℕ) → Tuple A n → List ℕ → List ℕ
row_t w zero ts rest = rest
row_t w (suc n) ts rest = w ts.0 ++ row_t w n ts.1 rest

-- a decoder of just what w writes and P holds of
abbrev pub Sound : {A : Type 0} → (A → List ℕ) → (A → Type 0) → (List ℕ → Hit A) → Type 0
Sound {A} w P go = (ws : List ℕ) → Good (λ (a : A) us. (ws ≡ w a ++ us) × P a) (go ws)

abbrev pub Complete : {A : Type 0} → (A → List ℕ) → (A → Type 0) → (List ℕ → Hit A) → Type 0
Complete {A} w P go = (a : A) (rest : List ℕ) → P a → go (w a ++ rest) ≡ Some (a, rest)

pub many_sound : {A : Type 0} (w : A → List ℕ) (P : A → Type 0) (go : List ℕ → Hit A) → Sound w P go → (n : ℕ) (ws : List ℕ) → Good (λ (ts : Tuple A n) us. (ws ≡ row_t w n ts us) × AllT P n ts) (many go n ws)
many_sound w P go f zero ws = (refl, tt)
many_sound w P go f (suc n) ws =
    bind _ _ (go ws) _ (f ws) (λ a us h. bind _ _ (many go n us) _ (many_sound w P go f n us) (λ ts vs k. (h.0 ∙ ap (λ l. w a ++ l) k.0, (h.1, k.1))))

pub many_complete : {A : Type 0} (w : A → List ℕ) (P : A → Type 0) (go : List ℕ → Hit A) → Complete w P go → (n : ℕ) (ts : Tuple A n) (rest : List ℕ) → AllT P n ts → many go n (row_t w n ts rest) ≡ Some (ts, rest)
many_complete w P go f zero ts rest h = refl
many_complete w P go f (suc n) ts rest h = rw (f ts.0 (row_t w n ts.1 rest) h.0, many_complete w P go f n ts.1 rest h.1)

-- lists as tuples
abbrev pub tuple_of : {A : Type 0} (as₁ : List A) → Tuple A (length as₁)
tuple_of [] = tt
tuple_of (a ∷ as₁) = (a, tuple_of as₁)

pub list_tuple : {A : Type 0} (as₁ : List A) → list_t (length as₁) (tuple_of as₁) ≡ as₁
list_tuple [] = refl
list_tuple (a ∷ as₁) = ap (λ l. a ∷ l) (list_tuple as₁)

pub length_list_t : (A : Type 0) (n : ℕ) (ts : Tuple A n) → length (list_t n ts) ≡ n
length_list_t A zero ts = refl
length_list_t A (suc n) ts = ap suc (length_list_t A n ts.1)

-- one word
abbrev pub one : ℕ → List ℕ
one w = w ∷ []

pub word_sound : Sound one (λ w. Unit {0}) word
word_sound [] = tt
word_sound (w ∷ ws) = (refl, tt)

pub below_sound : (k : ℕ) → Sound one (λ w. T (ltb w k)) (below1 k)
below_sound k [] = tt
below_sound k (w ∷ ws) = guarded _ (ltb w k) _ (λ h. (refl, h))

pub below_complete : (k : ℕ) → Complete one (λ w. T (ltb w k)) (below1 k)
below_complete k w rest h = passed (ltb w k) _ h

pub row_list : (n : ℕ) (ts : Tuple ℕ n) (rest : List ℕ) → row_t one n ts rest ≡ list_t n ts ++ rest
row_list zero ts rest = refl
row_list (suc n) ts rest = ap (λ l. ts.0 ∷ l) (row_list n ts.1 rest)

-- A head's words are at the front: w is the first of them, and the others are what stands there.
pub front1 : (ws : List ℕ) (w : ℕ) → get_or ws 0 0 ≡ w → 1 ≤ length ws → ws ≡ w ∷ drop 1 ws
front1 [] w e h = absurd (omega arith)
front1 (a ∷ ws) w e h = ap (λ v. v ∷ ws) e

pub front2 : (ws : List ℕ) (w : ℕ) → get_or ws 0 0 ≡ w → 2 ≤ length ws → ws ≡ w ∷ get_or ws 1 0 ∷ drop 2 ws
front2 [] w e h = absurd (omega arith)
front2 (a ∷ ws) w e h = ap (λ v. v ∷ ws) e ∙ ap (λ l. w ∷ l) (front1 ws _ refl (omega arith))

pub front3 : (ws : List ℕ) (w : ℕ) → get_or ws 0 0 ≡ w → 3 ≤ length ws → ws ≡ w ∷ get_or ws 1 0 ∷ get_or ws 2 0 ∷ drop 3 ws
front3 [] w e h = absurd (omega arith)
front3 (a ∷ ws) w e h = ap (λ v. v ∷ ws) e ∙ ap (λ l. w ∷ l) (front2 ws _ refl (omega arith))

pub front4 : (ws : List ℕ) (w : ℕ) → get_or ws 0 0 ≡ w → 4 ≤ length ws → ws ≡ w ∷ get_or ws 1 0 ∷ get_or ws 2 0 ∷ get_or ws 3 0 ∷ drop 4 ws
front4 [] w e h = absurd (omega arith)
front4 (a ∷ ws) w e h = ap (λ v. v ∷ ws) e ∙ ap (λ l. w ∷ l) (front3 ws _ refl (omega arith))

-- a head that would be there if the words were
abbrev pub Fronted : {H : Type 0} → (H → Shape) → (H → List ℕ) → List ℕ → Option H → Type 0
Fronted shape row ws None = Unit {0}
Fronted shape row ws (Some h) = (shape h).words ≤ length ws → ws ≡ row h ++ drop (shape h).words ws

pub fits_sound : {H : Type 0} (shape : H → Shape) (row : H → List ℕ) (ws : List ℕ) (o : Option H) → Fronted shape row ws o → Good (λ h us. ws ≡ row h ++ us) (fits shape ws o)
fits_sound shape row ws None f = tt
fits_sound shape row ws (Some h) f = guarded _ (leb (shape h).words (length ws)) _ (λ t. f (leb→le (shape h).words (length ws) t))

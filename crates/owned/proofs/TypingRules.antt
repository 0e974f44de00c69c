-- What a program that keeps the rules says of its parts: of a statement's tests, of an argument, of each procedure.
-- A test that is `Some` says that each of the conditions it is made of holds.
use Rattle.std.proofs.Common.{◌≡◌, ℕ, zero, suc, ◌+◌, ◌<◌, ◌≤◌, Bool, true, false, cond, not, ◌||◌, T, eqb, ltb, leb, ◌⊎◌, List, [], ◌∷◌, length, get_or, Some, None, Option, sym, refl, ap, ◌∙◌, inl, inr, arith}
use Rattle.std.specs.List.{slice_get}
use Rattle.std.proofs.lemmas.Bool.{ltb-true, leb-true, eqb-true, and_parts, or_cases, both_ways}
use Rattle.owned.specs.Program.{Arg, S, Sig, Proc, Prog, kind}
use Rattle.owned.specs.Machine.{push}
use Rattle.owned.specs.Kept.{Full, is_full, there, is_num, gives, full_after_give, both, when, alike1, alike, joined, again, handed, hands, called, keeps, begins, ends_well, kept1, kept_all, starts, kept}
use Rattle.owned.specs.Rows.{deep_s, below, ok_s, ok_sig, ok_p, ok_ps, Rows}
use Rattle.owned.specs.Holders.{keeps_all}
use Rattle.owned.proofs.Places.{none_some}

pub when_parts : (b : Bool) (o : Option Full) (d : Full) → when b o ≡ Some d → (b ≡ true) × (o ≡ Some d)
when_parts true o d e = (refl, e)
when_parts false o d e = (none_some d e, none_some d e)

-- the same, where what is full afterwards is written out
pub when_full : (b : Bool) (c d : Full) → when b (Some c) ≡ Some d → (b ≡ true) × (c ≡ d)
when_full true c d e = (refl, cc)
when_full false c d e = none_some d e

pub both_parts : (o : Option Full) (k : Full → Option Full) (d : Full) → both o k ≡ Some d → (c : Full) × (o ≡ Some c) × (k c ≡ Some d)
both_parts None k d e = none_some d e
both_parts (Some c) k d e = (c, refl, e)

alike1_eq : (a b : Bool) → alike1 a b ≡ true → a ≡ b
alike1_eq true true e = refl
alike1_eq true false e = sym e
alike1_eq false true e = e
alike1_eq false false e = refl

alike_eq : (c d : Full) → alike c d ≡ true → c ≡ d
alike_eq [] [] e = refl
alike_eq [] (b ∷ d) e = cc
alike_eq (a ∷ c) [] e = cc
alike_eq (a ∷ c) (b ∷ d) e = let (p, q) = and_parts (alike1 a b) _ e in let p' = alike1_eq a b p in let q' = alike_eq c d q in cc

pub joined_parts : (o o' : Option Full) (d : Full) → joined o o' ≡ Some d → (o ≡ Some d) × (o' ≡ Some d)
joined_parts None o' d e = none_some d e
joined_parts (Some c) None d e = none_some d e
joined_parts (Some c) (Some c') d e = let (p, q) = when_full (alike c c') c d e in let p' = alike_eq c c' p in (cc, cc)

pub called_parts : (o : Option Proc) (k : Sig → Option Full) (d : Full) → called o k ≡ Some d → (q : Proc) × (o ≡ Some q) × (k q.sig ≡ Some d)
called_parts None k d e = none_some d e
called_parts (Some q) k d e = (q, refl, e)

-- an argument of a call, and those after it
pub record Argument (p q : Sig) (i : ℕ) (a : Arg) (as₁ : List Arg) (c d : Full) : Type 0 where
  pub within : i < length q.args
  pub mark : a.lent ≡ get_or q.args i 0
  pub kinded : kind p a.of ≡ kind q i
  pub inside : a.of < length p.kinds
  pub isfull : is_full c a.of ≡ true
  pub may : (eqb a.lent 1 || gives p c a.of) ≡ true
  pub later : hands p q (i + 1) as₁ (cond (eqb a.lent 1) c (full_after_give p c a.of)) ≡ Some d
  pub once : (is_num p a.of || not (again a.of as₁)) ≡ true

pub argument : (p q : Sig) (i : ℕ) (a : Arg) (as₁ : List Arg) (c d : Full) → hands p q i (a ∷ as₁) c ≡ Some d → Argument p q i a as₁ c d
argument p q i a as₁ c d h =
    let (t, r) = when_parts (handed p q i a c) _ d h in
    let (t₁, u₁) = and_parts (ltb i (length q.args)) _ t in
    let (t₂, u₂) = and_parts (eqb a.lent (get_or q.args i 0)) _ u₁ in
    let (t₃, u₃) = and_parts (eqb (kind p a.of) (kind q i)) _ u₂ in
    let (t₄, u₄) = and_parts (there p a.of) _ u₃ in
    let (t₅, u₅) = and_parts (is_full c a.of) _ u₄ in
    let (d', r₁, r₂) = both_parts (hands p q (i + 1) as₁ (cond (eqb a.lent 1) c (full_after_give p c a.of))) _ d r in
    let (r₃, r₄) = when_full (is_num p a.of || not (again a.of as₁)) d' d r₂ in
    record { within = ltb-true i (length q.args) t₁; mark = eqb-true a.lent (get_or q.args i 0) t₂; kinded = eqb-true (kind p a.of) (kind q i) t₃; inside = ltb-true a.of (length p.kinds) t₄; isfull = t₅; may = u₅; later = r₁ ∙ ap Some r₄; once = r₃ }

-- what is full as a procedure begins is an argument or a number
pub begins_full : (i : ℕ) (p : Sig) (ks : List ℕ) (y : ℕ) → is_full (begins i p ks) y ≡ true → (y < length ks) × ((i + y < length p.args) ⊎ (get_or ks y 0 ≡ 0))
begins_full i p [] y e = elim (both_ways false refl e) [ ]
begins_full i p (k ∷ ks) zero e = (omega arith, go (or_cases (ltb i (length p.args)) (eqb k 0) e))
  where
    go : (ltb i (length p.args) ≡ true) ⊎ (eqb k 0 ≡ true) → (i + 0 < length p.args) ⊎ (k ≡ 0)
    go (inl q) = let l = ltb-true i (length p.args) q in inl (omega arith)
    go (inr q) = inr (eqb-true k 0 q)
begins_full i p (k ∷ ks) (suc y) e = let (l, r) = begins_full (i + 1) p ks y e in (omega (arith, l), go r)
  where
    go : (i + 1 + y < length p.args) ⊎ (get_or ks y 0 ≡ 0) → (i + suc y < length p.args) ⊎ (get_or ks y 0 ≡ 0)
    go (inl q) = inl (omega arith)
    go (inr q) = inr q

-- pending statements keep the rules from what is full on, and the result is full at the end
abbrev pub Keeps : Prog → Sig → List S → Full → Type 0
Keeps g p [] c = is_full c p.result ≡ true
Keeps g p (a ∷ ss) c = (d : Full) × (ok_s a ≡ true) × (keeps g p a c ≡ Some d) × Keeps g p ss d

pub keeps_all_lem : (g : Prog) (p : Sig) (ss : List S) (c : Full) → Keeps g p ss c → ends_well p (keeps_all g p ss c) ≡ true
keeps_all_lem g p [] c k = k
keeps_all_lem g p (a ∷ ss) c (d, o, e, k) = rw e (keeps_all_lem g p ss d k)

-- a statement before others keeps the rules if it does and then they do
pub keeps_push : (g : Prog) (p : Sig) (a : S) (ss : List S) (c d : Full) → ok_s a ≡ true → keeps g p a c ≡ Some d → Keeps g p ss d → Keeps g p (push a ss) c
keeps_push g p S.skip ss c d o e k = (d, o, e, k)
keeps_push g p (S.then a b) ss c d o e k =
    let (oa, ob) = and_parts (ok_s a) _ o in let (c', ea, eb) = both_parts (keeps g p a c) (λ z. keeps g p b z) d e in
    keeps_push g p a (push b ss) c c' oa ea (keeps_push g p b ss c' d ob eb k)
keeps_push g p (S.set x e₁) ss c d o e k = (d, o, e, k)
keeps_push g p (S.box x y) ss c d o e k = (d, o, e, k)
keeps_push g p (S.unbox x y) ss c d o e k = (d, o, e, k)
keeps_push g p (S.look x y) ss c d o e k = (d, o, e, k)
keeps_push g p (S.fill x y) ss c d o e k = (d, o, e, k)
keeps_push g p (S.move x y) ss c d o e k = (d, o, e, k)
keeps_push g p (S.drop x) ss c d o e k = (d, o, e, k)
keeps_push g p (S.if e₁ a b) ss c d o e k = (d, o, e, k)
keeps_push g p (S.while e₁ a) ss c d o e k = (d, o, e, k)
keeps_push g p (S.call x f as₁) ss c d o e k = (d, o, e, k)
keeps_push g p (S.show e₁) ss c d o e k = (d, o, e, k)

-- what is known of each procedure: of its signature, and of its body
pub record Shaped (p : Sig) : Type 0 where
  pub fits : length p.args ≤ length p.kinds
  pub out : length p.args ≤ p.result
  pub isvar : p.result < length p.kinds

pub record Sound (g : Prog) (q : Proc) : Type 0 where
  pub shape : Shaped q.sig
  pub marked : ok_s q.body ≡ true
  pub after : Full
  pub keeping : keeps g q.sig q.body (begins 0 q.sig q.sig.kinds) ≡ Some after
  pub isfull : is_full after q.sig.result ≡ true

ends_parts : (q : Sig) (o : Option Full) → ends_well q o ≡ true → (c : Full) × (o ≡ Some c) × (is_full c q.result ≡ true)
ends_parts q None e = elim (both_ways false refl e) [ ]
ends_parts q (Some c) e = (c, refl, e)

sound_one : (g : Prog) (q : Proc) → ok_p q ≡ true → kept1 g q ≡ true → Sound g q
sound_one g q o k =
    let p : Sig = q.sig in
    let (s, o₁) = and_parts (ok_sig p) _ o in
    let (s₁, t₁) = and_parts (leb (length p.kinds) 32) _ s in
    let (s₂, t₂) = and_parts (below 9 p.kinds) _ t₁ in
    let (s₃, t₃) = and_parts (leb (length p.args) 8) _ t₂ in
    let (s₄, t₄) = and_parts (leb (length p.args) (length p.kinds)) _ t₃ in
    let (k₁, v₁) = and_parts (leb (length p.args) p.result) _ k in
    let (k₂, v₂) = and_parts (there p p.result) _ v₁ in
    let (c, e₁, e₂) = ends_parts p (keeps g p q.body (begins 0 p p.kinds)) v₂ in
    record { shape = record { fits = leb-true (length p.args) (length p.kinds) s₄; out = leb-true (length p.args) p.result k₁; isvar = ltb-true p.result (length p.kinds) k₂ }; marked = (and_parts (leb (deep_s q.body) 128) _ o₁).1; after = c; keeping = e₁; isfull = e₂ }

sound_in : (g : Prog) (ps : List Proc) (f : ℕ) (q : Proc) → ok_ps ps ≡ true → kept_all g ps ≡ true → slice_get ps f ≡ Some q → Sound g q
sound_in g [] f q o k e = none_some q e
sound_in g (p ∷ ps) zero q o k e = let pq : p ≡ q = cc in rw (← pq) (sound_one g p (and_parts (ok_p p) _ o).0 (and_parts (kept1 g p) _ k).0)
sound_in g (p ∷ ps) (suc f) q o k e = sound_in g ps f q (and_parts (ok_p p) _ o).1 (and_parts (kept1 g p) _ k).1 e

pub sound : (g : Prog) → ok_ps g ≡ true → kept g ≡ true → (f : ℕ) (q : Proc) → slice_get g f ≡ Some q → Sound g q
sound g o k f q e = sound_in g g f q o (and_parts (starts g) _ k).1 e

T_true : (b : Bool) → T b → b ≡ true
T_true true t = refl
T_true false t = elim t [ ]

pub rows_ok : (s : List ℕ) (g : Prog) → Rows s g → ok_ps g ≡ true
rows_ok s g r = (and_parts (leb (length g) 64) _ (and_parts (leb (length s) 16384) _ (T_true _ r.fine)).1).1

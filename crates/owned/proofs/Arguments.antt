-- Arguments of a call: the words of each, and what they ask one after the other.
-- From place j of them on the definition goes over the rest of the list, so each turn of the loop takes one off.
use Rattle.std.proofs.Common.{◌≡◌, ℕ, suc, ◌+◌, ◌-◌, ◌*◌, ◌/◌, ◌<◌, ◌≤◌, Bool, true, false, cond, not, ◌&&◌, ◌||◌, eqb, List, [], ◌∷◌, ◌++◌, length, get_or, take, drop, Some, None, Option, sym, refl, ap, ◌∙◌, arith}
use Rattle.std.proofs.lemmas.Bool.{eq-eqb, ne_eqb}
use Rattle.std.proofs.Math.Seq.{take-append_seam, drop-cons}
use Rattle.std.proofs.lemmas.List.{drop_all}
use Rattle.std.specs.List.{list_any}
use Rattle.std.specs.Simd.{first_chunks}
use Rattle.owned.specs.declared.varset.VarSet.{VarSet}
use Rattle.owned.specs.Program.{Arg, Sig}
use Rattle.owned.specs.Rows.{row_as}
use Rattle.owned.specs.Kept.{Full, is_num, both, when, again, lent_away, handed, hands, full_after_give}
use Rattle.owned.specs.Views.{Seen, full_of, args_of, ArgumentsAt, After}
use Rattle.owned.proofs.Layouts.{word_at}

pub args_past : (ws : List ℕ) (i : ℕ) (as₁ : List Arg) (rest : List ℕ) → i ≤ length ws → drop i ws ≡ row_as as₁ ++ rest → (drop (i + 2 * length as₁) ws ≡ rest) × (i + 2 * length as₁ ≤ length ws)
args_past ws i [] rest l h = let e : i + 0 ≡ i = omega arith in (ap (λ v. drop v ws) e ∙ h, omega arith)
args_past ws i (a ∷ as₁) rest l h =
    let t = word_at i ws a.of (a.lent ∷ (row_as as₁ ++ rest)) h in
    let u = word_at (i + 1) ws a.lent (row_as as₁ ++ rest) t.2 in
    let e : i + 2 ≡ i + 1 + 1 = omega arith in
    let w = args_past ws (i + 2) as₁ rest (omega (arith, u.0)) (ap (λ z. drop z ws) e ∙ u.2) in
    let k : i + 2 * suc (length as₁) ≡ i + 2 + 2 * length as₁ = omega arith in
    (ap (λ z. drop z ws) k ∙ w.0, omega (arith, w.1))

-- the words cut into arguments
length_row_as : (as₁ : List Arg) → length (row_as as₁) ≡ 2 * length as₁
length_row_as [] = refl
length_row_as (a ∷ as₁) = omega (arith, length_row_as as₁)

front_as : (as₁ : List Arg) (rest : List ℕ) → take (2 * length as₁) (row_as as₁ ++ rest) ≡ row_as as₁
front_as as₁ rest = ap (λ k. take k (row_as as₁ ++ rest)) (sym (length_row_as as₁)) ∙ take-append_seam (row_as as₁) rest

cut : (as₁ : List Arg) → args_of (first_chunks 2 (length as₁) (row_as as₁)) ≡ as₁
cut [] = refl
cut (a ∷ as₁) = ap (λ bs. a ∷ bs) (cut as₁)

pub arguments_there : (m : Seen) (i n : ℕ) (us : List (List ℕ)) → us ≡ first_chunks 2 (length (take (i + 2 * n - i) (drop i m.rows)) / 2) (take (i + 2 * n - i) (drop i m.rows)) → ArgumentsAt m i n us
arguments_there m i n us e as₁ rest h =
    let z : i + 2 * n - i ≡ 2 * length as₁ = omega (arith, h.0) in
    let w : take (i + 2 * n - i) (drop i m.rows) ≡ row_as as₁ = ap (λ k. take k (drop i m.rows)) z ∙ ap (take (2 * length as₁)) h.1 ∙ front_as as₁ rest in
    let d : length (row_as as₁) / 2 ≡ length as₁ = omega (arith, length_row_as as₁) in
    ap args_of (e ∙ ap (λ ws. first_chunks 2 (length ws / 2) ws) w ∙ ap (λ k. first_chunks 2 k (row_as as₁)) d) ∙ cut as₁

-- arguments handed over and lent: those left ask of what is full by now what all asked at first
both_some : (c : Option Full) → both c (λ d. when true (Some d)) ≡ c
both_some None = refl
both_some (Some c) = refl

both_none : (c : Option Full) → both c (λ d. when false (Some d)) ≡ None
both_none None = refl
both_none (Some c) = refl

-- another number of arguments than the procedure has
many_hands : (p q : Sig) (j : ℕ) (bs : List Arg) (d : Full) → (length bs + j ≡ length q.args → ⊥) → hands p q j bs d ≡ None
many_hands p q j [] d f = ap (λ b. when b (Some d)) (ne_eqb j (length q.args) (λ e. f (omega (arith, e))))
many_hands p q j (b ∷ bs) d f =
    by (handed p q j b d) (many_hands p q (j + 1) bs (cond (eqb b.lent 1) d (full_after_give p d b.of)) (λ e. f (omega (arith, e))))
  where
    by : (t : Bool) → hands p q (j + 1) bs (cond (eqb b.lent 1) d (full_after_give p d b.of)) ≡ None → when t (both (hands p q (j + 1) bs (cond (eqb b.lent 1) d (full_after_give p d b.of))) (λ e. when (is_num p b.of || not (again b.of bs)) (Some e))) ≡ None
    by true e = ap (λ c. both c (λ z. when (is_num p b.of || not (again b.of bs)) (Some z))) e
    by false e = refl

-- looked through by their words
pub any_among : (x : ℕ) (us : List (List ℕ)) → list_any (λ w. eqb x (get_or w 0 0)) us ≡ again x (args_of us)
any_among x [] = refl
any_among x (u ∷ us) = ap (λ b. eqb x (get_or u 0 0) || b) (any_among x us)

pub any_lends : (x : ℕ) (us : List (List ℕ)) → list_any (λ w. eqb (get_or w 1 0) 1 && eqb x (get_or w 0 0)) us ≡ lent_away x (args_of us)
any_lends x [] = refl
any_lends x (u ∷ us) = ap (λ b. (eqb (get_or u 1 0) 1 && eqb x (get_or u 0 0)) || b) (any_lends x us)

pub length_args : (us : List (List ℕ)) → length (args_of us) ≡ length us
length_args [] = refl
length_args (u ∷ us) = ap suc (length_args us)

module _ (m : Seen) (q : Sig) (us : List (List ℕ)) (k : VarSet) where
  -- the arguments from place j on ask of d what all ask of k
  abbrev pub Left : ℕ → VarSet → Type 0
  Left j d = hands m.sig q 0 (args_of us) (full_of m k) ≡ hands m.sig q j (args_of (drop j us)) (full_of m d)

  pub hands_other : (length us ≡ length q.args → ⊥) → After m (hands m.sig q 0 (args_of us) (full_of m k)) None
  hands_other f = many_hands m.sig q 0 (args_of us) (full_of m k) (λ e. f (omega (arith, length_args us, e)))

  pub hands_done : (j : ℕ) (d : VarSet) → Left j d → length us ≡ j → length us ≡ length q.args → After m (hands m.sig q 0 (args_of us) (full_of m k)) (Some d)
  hands_done j d f e h =
      f ∙ ap (λ vs. hands m.sig q j (args_of vs) (full_of m d)) (drop_all j us (omega arith)) ∙ ap (λ b. when b (Some (full_of m d))) (eq-eqb j (length q.args) (sym e ∙ h))

  module _ (j : ℕ) (d : VarSet) (f : Left j d) (l : j < length us) (dflt : List ℕ) where
    -- the argument at hand, and the others
    abbrev pub var : ℕ
    var = get_or (get_or us j dflt) 0 0

    abbrev pub mark : ℕ
    mark = get_or (get_or us j dflt) 1 0

    abbrev others : List Arg
    others = args_of (drop (j + 1) us)

    abbrev given : Full
    given = cond (eqb mark 1) (full_of m d) (full_after_give m.sig (full_of m d) var)

    split : drop j us ≡ get_or us j dflt ∷ drop (j + 1) us
    split = let e : suc j ≡ j + 1 = omega arith in drop-cons us j dflt l ∙ ap (λ n. get_or us j dflt ∷ drop n us) e

    step : (t : Bool) → t ≡ handed m.sig q j (record { of = var; lent = mark }) (full_of m d)
        → hands m.sig q 0 (args_of us) (full_of m k) ≡ when t (both (hands m.sig q (j + 1) others given) (λ e. when (is_num m.sig var || not (again var others)) (Some e)))
    step t e =
        f ∙ ap (λ vs. hands m.sig q j (args_of vs) (full_of m d)) split
        ∙ ap (λ b. when b (both (hands m.sig q (j + 1) others given) (λ e. when (is_num m.sig var || not (again var others)) (Some e)))) (sym e)

    pub hands_no : false ≡ handed m.sig q j (record { of = var; lent = mark }) (full_of m d) → After m (hands m.sig q 0 (args_of us) (full_of m k)) None
    hands_no t = step false t

    module _ (t : true ≡ handed m.sig q j (record { of = var; lent = mark }) (full_of m d)) where
      alone : (b : Bool) → (is_num m.sig var || not (again var others)) ≡ b → hands m.sig q 0 (args_of us) (full_of m k) ≡ both (hands m.sig q (j + 1) others given) (λ e. when b (Some e))
      alone b e = step true t ∙ ap (λ z. both (hands m.sig q (j + 1) others given) (λ e. when z (Some e))) e

      -- whether the variable stands among the others
      pub hands_twice : false ≡ is_num m.sig var → true ≡ list_any (λ w. eqb var (get_or w 0 0)) (drop (j + 1) us) → After m (hands m.sig q 0 (args_of us) (full_of m k)) None
      hands_twice n h =
          let e : (is_num m.sig var || not (again var others)) ≡ false = ap (λ b. b || not (again var others)) (sym n) ∙ ap (λ b. not b) (sym (h ∙ any_among var (drop (j + 1) us))) in
          alone false e ∙ both_none _

      module _ (z : VarSet) (ez : full_of m z ≡ given) where
        more : (is_num m.sig var || not (again var others)) ≡ true → Left (j + 1) z
        more e = alone true e ∙ both_some _ ∙ ap (λ c. hands m.sig q (j + 1) others c) (sym ez)

        pub hands_number : true ≡ is_num m.sig var → Left (j + 1) z
        hands_number n = more (ap (λ b. b || not (again var others)) (sym n))

        pub hands_box : false ≡ is_num m.sig var → false ≡ list_any (λ w. eqb var (get_or w 0 0)) (drop (j + 1) us) → Left (j + 1) z
        hands_box n h = more (ap (λ b. b || not (again var others)) (sym n) ∙ ap (λ b. not b) (sym (h ∙ any_among var (drop (j + 1) us))))

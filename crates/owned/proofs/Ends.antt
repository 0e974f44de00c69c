-- Where decoders end, as the code finds it: one after the other, n in a loop, and by a head and its shape.
-- `Ended` ties a decoder's answer to a place in the rows; each lemma is one step of the code.
use Rattle.std.proofs.Common.{◌≡◌, ℕ, zero, suc, ◌+◌, ◌-◌, ◌*◌, ◌/◌, ◌<◌, ◌≤◌, Bool, true, false, ◌&&◌, leb, ltb, List, length, get_or, take, drop, Some, None, Option, sym, refl, ap, ◌∙◌, subst, inl, inr, add-one, arith}
use Rattle.std.proofs.lemmas.List.{length-drop, length-take-le, at_drop_more, at_drop_all}
use Rattle.std.proofs.lemmas.Bool.{cases_lt, and_parts, lt-ltb, le-ltb, leb-true, leb-false, ltb-true, ltb-false}
use Rattle.std.proofs.Math.Seq.{drop-cons}
use Rattle.std.specs.List.{list_all, slice_range}
use Rattle.std.specs.Simd.{first_chunks}
use Rattle.owned.specs.declared.decode.Expression.{Expression}
use Rattle.owned.specs.declared.decode.Statement.{Statement}
use Rattle.owned.specs.declared.decode.Shape.{Shape}
use Rattle.owned.specs.Program.{Arg}
use Rattle.owned.specs.Decode.{Hit, chain, Tuple, many, word, below1, read_a, node_shape, node_of, make_e, read_e, head_shape, head_of, make, parts, read_s}
use Rattle.owned.specs.Ends.{Ended, NodeAt, HeadAt}

-- one after the other
pub chain_none : {A B : Type 0} (ws : List ℕ) (r : Hit A) (k : A → List ℕ → Hit B) → Ended ws r None → Ended ws (chain r k) None
chain_none ws None k h = tt
chain_none ws (Some p) k h = absurd h

pub chain_some : {A B : Type 0} (ws : List ℕ) (r : Hit A) (k : A → List ℕ → Hit B) (j : ℕ) (o : Option ℕ) → Ended ws r (Some j) → ((a : A) → Ended ws (k a (drop j ws)) o) → Ended ws (chain r k) o
chain_some ws None k j o h f = absurd h
chain_some ws (Some p) k j o h f = subst (λ us. Ended ws (k p.0 us) o) (sym h.0) (f p.0)

-- what is made of a thing ends where it does
pub made_end : {A B : Type 0} (ws : List ℕ) (r : Hit A) (f : A → B) (o : Option ℕ) → Ended ws r o → Ended ws (chain r (λ a us. Some (f a, us))) o
made_end ws None f None h = h
made_end ws None f (Some j) h = h
made_end ws (Some p) f None h = h
made_end ws (Some p) f (Some j) h = h

pub in_end : {A : Type 0} (ws : List ℕ) (r : Hit A) (j : ℕ) → Ended ws r (Some j) → j ≤ length ws
in_end ws None j h = absurd h
in_end ws (Some p) j h = h.1

-- one thing in a row of one
pub only : {A : Type 0} (ws us : List ℕ) (go : List ℕ → Hit A) (o : Option ℕ) → Ended ws (many go 1 us) o → Ended ws (go us) o
only {A} ws us go o h = by (go us) o h
  where
    by : (r : Hit A) (q : Option ℕ) → Ended {A = Tuple A 1} ws (chain r (λ a vs. Some ((a, tt), vs))) q → Ended ws r q
    by None None k = k
    by None (Some j) k = k
    by (Some p) None k = k
    by (Some p) (Some j) k = k

-- a loop over n things from a place on, of which i are read up to another
pub record Rest {A : Type 0} (ws : List ℕ) (go : List ℕ → Hit A) (n from i to : ℕ) : Type 0 where
  pub within : to ≤ length ws
  pub ends : (o : Option ℕ) → Ended ws (many go (n - i) (drop to ws)) o → Ended ws (many go n (drop from ws)) o

module _ (A : Type 0) (ws : List ℕ) (go : List ℕ → Hit A) (n from : ℕ) where
  pub rest_begin : from ≤ length ws → Rest ws go n from 0 from
  rest_begin l = let e : n - 0 ≡ n = omega arith in record { within = l; ends = λ o h. rw e at h }

  module _ (i to : ℕ) (r : Rest ws go n from i to) where
    pub rest_done : n ≡ i → Ended ws (many go n (drop from ws)) (Some to)
    rest_done e = let z : n - i ≡ 0 = omega arith in r.ends (Some to) (rw z (refl, r.within))

    pub rest_none : i < n → Ended ws (go (drop to ws)) None → Ended ws (many go n (drop from ws)) None
    rest_none l h = let z : n - i ≡ suc (n - (i + 1)) = omega arith in r.ends None (rw z (chain_none ws (go (drop to ws)) _ h))

    pub rest_more : i < n → (j : ℕ) → Ended ws (go (drop to ws)) (Some j) → Rest ws go n from (i + 1) j
    rest_more l j h =
        let z : n - i ≡ suc (n - (i + 1)) = omega arith in
        record {
          within = in_end ws (go (drop to ws)) j h;
          ends = λ o k. r.ends o (rw z (chain_some ws (go (drop to ws)) _ j o h (λ a. made_end ws (many go (n - (i + 1)) (drop j ws)) (λ as₁. (a, as₁)) o k)));
        }

-- words
pub word_end : (ws : List ℕ) (i : ℕ) → i < length ws → Ended ws (word (drop i ws)) (Some (i + 1))
word_end ws i l = rw (at_drop_more word ws i 0 l) (refl, omega arith)

pub below_end : (k : ℕ) (ws : List ℕ) (i : ℕ) → i < length ws → get_or ws i 0 < k → Ended ws (below1 k (drop i ws)) (Some (i + 1))
below_end k ws i l h = rw (at_drop_more word ws i 0 l, lt-ltb (get_or ws i 0) k h) (refl, omega arith)

pub below_past : (k : ℕ) (ws : List ℕ) (i : ℕ) → length ws ≤ i → Ended ws (below1 k (drop i ws)) None
below_past k ws i l = rw (at_drop_all word ws i l) tt

pub below_big : (k : ℕ) (ws : List ℕ) (i : ℕ) → i < length ws → k ≤ get_or ws i 0 → Ended ws (below1 k (drop i ws)) None
below_big k ws i l h = rw (at_drop_more word ws i 0 l, le-ltb (get_or ws i 0) k h) tt

-- arguments
pub arg_end : (ws : List ℕ) (i : ℕ) → i + 1 < length ws → get_or ws (i + 1) 0 < 2 → Ended ws (read_a (drop i ws)) (Some (i + 2))
arg_end ws i l h =
    let e : i + 1 + 1 ≡ i + 2 = omega arith in
    chain_some ws (word (drop i ws)) _ (i + 1) (Some (i + 2)) (word_end ws i (omega arith)) (λ x. made_end ws (below1 2 (drop (i + 1) ws)) (λ y. record { of = x; lent = y }) (Some (i + 2)) (subst (λ z. Ended ws (below1 2 (drop (i + 1) ws)) (Some z)) e (below_end 2 ws (i + 1) l h)))

pub arg_past : (ws : List ℕ) (i : ℕ) → length ws ≤ i + 1 → Ended ws (read_a (drop i ws)) None
arg_past ws i l =
    elim (cases_lt i (length ws)) [
      | inl h ↦ chain_some ws (word (drop i ws)) _ (i + 1) None (word_end ws i h) (λ x. chain_none ws (below1 2 (drop (i + 1) ws)) _ (below_past 2 ws (i + 1) l))
      | inr h ↦ rw (at_drop_all word ws i h) tt
    ]

pub arg_big : (ws : List ℕ) (i : ℕ) → i + 1 < length ws → 2 ≤ get_or ws (i + 1) 0 → Ended ws (read_a (drop i ws)) None
arg_big ws i l h = chain_some ws (word (drop i ws)) _ (i + 1) None (word_end ws i (omega arith)) (λ x. chain_none ws (below1 2 (drop (i + 1) ws)) _ (below_big 2 ws (i + 1) l h))

-- what is cut out of the rows
pub cut_out : (ws : List ℕ) (i n : ℕ) → slice_range ws i (i + n) ≡ take n (drop i ws)
cut_out ws i n = let e : i + n - i ≡ n = omega arith in ap (λ k. take k (drop i ws)) e

-- n things of k words each, of which the one at place i is there if t holds of it
module _ (A : Type 0) (ws : List ℕ) (go : List ℕ → Hit A) (k : ℕ) (t : ℕ → Bool) where
  -- the things from place i on
  abbrev pub all_from : ℕ → ℕ → Bool
  all_from i zero = true
  all_from i (suc n) = t i && all_from (i + k) n

  module _ (good : (i : ℕ) → i + k ≤ length ws → t i ≡ true → Ended ws (go (drop i ws)) (Some (i + k))) (bad : (i : ℕ) → i + k ≤ length ws → t i ≡ false → Ended ws (go (drop i ws)) None) where
    one_more : (i n : ℕ) (o : Option ℕ) → Ended ws (go (drop i ws)) (Some (i + k)) → Ended ws (many go n (drop (i + k) ws)) o → Ended ws (many go (suc n) (drop i ws)) o
    one_more i n o h r = chain_some ws (go (drop i ws)) _ (i + k) o h (λ a. made_end ws (many go n (drop (i + k) ws)) (λ as₁. (a, as₁)) o r)

    -- by the first: it is not there, or one of the others is not
    unlike_by : (i n : ℕ) → i + k ≤ length ws → (b : Bool) → t i ≡ b → (t i ≡ true → Ended ws (many go n (drop (i + k) ws)) None) → Ended ws (many go (suc n) (drop i ws)) None
    unlike_by i n l true h r = one_more i n None (good i l h) (r h)
    unlike_by i n l false h r = chain_none ws (go (drop i ws)) _ (bad i l h)

    pub many_there : (i n : ℕ) → i + k * n ≤ length ws → all_from i n ≡ true → Ended ws (many go n (drop i ws)) (Some (i + k * n))
    many_there i zero l e = let z : i + k * 0 ≡ i = omega arith in rw z (refl, omega arith)
    many_there i (suc n) l e =
        let p = and_parts (t i) (all_from (i + k) n) e in
        let z : i + k * suc n ≡ i + k + k * n = omega arith in
        subst (λ j. Ended ws (many go (suc n) (drop i ws)) (Some j)) (sym z) (one_more i n (Some (i + k + k * n)) (good i (omega arith) p.0) (many_there (i + k) n (omega arith) p.1))

    pub many_unlike : (i n : ℕ) → i + k * n ≤ length ws → all_from i n ≡ false → Ended ws (many go n (drop i ws)) None
    many_unlike i zero l e = cc
    many_unlike i (suc n) l e = unlike_by i n (omega arith) (t i) refl (λ h. many_unlike (i + k) n (omega arith) (ap (λ b. b && all_from (i + k) n) (sym h) ∙ e))

    pub many_past : ((i : ℕ) → length ws < i + k → Ended ws (go (drop i ws)) None) → (i n : ℕ) → i ≤ length ws → length ws < i + k * n → Ended ws (many go n (drop i ws)) None
    many_past past i zero m l = absurd (omega arith)
    many_past past i (suc n) m l =
        elim (cases_lt (length ws) (i + k)) [
          | inl h ↦ chain_none ws (go (drop i ws)) _ (past i h)
          | inr h ↦ unlike_by i n h (t i) refl (λ e. many_past past (i + k) n h (omega arith))
        ]

-- words up to m
module _ (ws : List ℕ) (m : ℕ) where
  abbrev up_to : ℕ → Bool
  up_to i = leb (get_or ws i 0) m

  same_words : (i n : ℕ) → i + n ≤ length ws → list_all (λ w. leb w m) (take n (drop i ws)) ≡ all_from ℕ ws (below1 (m + 1)) 1 up_to i n
  same_words i zero l = refl
  same_words i (suc n) l = rw (drop-cons ws i 0 (omega arith), ← add-one i) (ap (λ b. up_to i && b) (same_words (i + 1) n (omega arith)))

  up_to_end : (i : ℕ) → i + 1 ≤ length ws → up_to i ≡ true → Ended ws (below1 (m + 1) (drop i ws)) (Some (i + 1))
  up_to_end i l e = let h : get_or ws i 0 ≤ m = leb-true (get_or ws i 0) m e in below_end (m + 1) ws i (omega arith) (omega arith)

  up_to_big : (i : ℕ) → i + 1 ≤ length ws → up_to i ≡ false → Ended ws (below1 (m + 1) (drop i ws)) None
  up_to_big i l e = let h : m < get_or ws i 0 = leb-false (get_or ws i 0) m e in below_big (m + 1) ws i (omega arith) (omega arith)

  module _ (i n : ℕ) where
    pub words_past : i ≤ length ws → length ws < i + n → Ended ws (many (below1 (m + 1)) n (drop i ws)) None
    words_past h l = many_past ℕ ws (below1 (m + 1)) 1 up_to up_to_end up_to_big (λ j k. below_past (m + 1) ws j (omega arith)) i n h (omega arith)

    module _ (l : i + n ≤ length ws) (us : List ℕ) (e : us ≡ slice_range ws i (i + n)) where
      pub words_there : true ≡ list_all (λ w. leb w m) us → Ended ws (many (below1 (m + 1)) n (drop i ws)) (Some (i + n))
      words_there h =
          let z : i + 1 * n ≡ i + n = omega arith in
          subst (λ j. Ended ws (many (below1 (m + 1)) n (drop i ws)) (Some j)) z
          (many_there ℕ ws (below1 (m + 1)) 1 up_to up_to_end up_to_big i n (omega arith) (sym (h ∙ ap (λ vs. list_all (λ w. leb w m) vs) (e ∙ cut_out ws i n) ∙ same_words i n l)))

      pub words_big : false ≡ list_all (λ w. leb w m) us → Ended ws (many (below1 (m + 1)) n (drop i ws)) None
      words_big h = many_unlike ℕ ws (below1 (m + 1)) 1 up_to up_to_end up_to_big i n (omega arith) (sym (h ∙ ap (λ vs. list_all (λ w. leb w m) vs) (e ∙ cut_out ws i n) ∙ same_words i n l))

-- arguments, by their marks
module _ (ws : List ℕ) where
  abbrev marked : ℕ → Bool
  marked i = ltb (get_or ws (i + 1) 0) 2

  same_marks : (i n : ℕ) → i + 2 * n ≤ length ws → list_all (λ w. ltb (get_or w 1 0) 2) (first_chunks 2 n (take (2 * n) (drop i ws))) ≡ all_from Arg ws read_a 2 marked i n
  same_marks i zero l = refl
  same_marks i (suc n) l =
      let a = drop-cons ws i 0 (omega arith) in
      let b = drop-cons ws (suc i) 0 (omega arith) in
      let z : 2 * suc n ≡ suc (suc (2 * n)) = omega arith in
      let y : suc (suc i) ≡ i + 2 = omega arith in
      rw (z, a, b, y, ← add-one i) (ap (λ c. marked i && c) (same_marks (i + 2) n (omega arith)))

  marked_end : (i : ℕ) → i + 2 ≤ length ws → marked i ≡ true → Ended ws (read_a (drop i ws)) (Some (i + 2))
  marked_end i l e = arg_end ws i (omega arith) (ltb-true (get_or ws (i + 1) 0) 2 e)

  marked_big : (i : ℕ) → i + 2 ≤ length ws → marked i ≡ false → Ended ws (read_a (drop i ws)) None
  marked_big i l e = arg_big ws i (omega arith) (ltb-false (get_or ws (i + 1) 0) 2 e)

  module _ (i n : ℕ) where
    pub args_past : i ≤ length ws → length ws < i + 2 * n → Ended ws (many read_a n (drop i ws)) None
    args_past h l = many_past Arg ws read_a 2 marked marked_end marked_big (λ j k. arg_past ws j (omega arith)) i n h l

    module _ (l : i + 2 * n ≤ length ws) (us : List ℕ) (e : us ≡ slice_range ws i (i + 2 * n)) (vs : List (List ℕ)) (f : vs ≡ first_chunks 2 (length us / 2) us) where
      cuts : vs ≡ first_chunks 2 n (take (2 * n) (drop i ws))
      cuts =
          let g : us ≡ take (2 * n) (drop i ws) = e ∙ cut_out ws i (2 * n) in
          let h : length us / 2 ≡ n = omega (arith, ap (λ ks. length ks) g, length-take-le (2 * n) (drop i ws) (omega (arith, length-drop i ws))) in
          f ∙ ap (λ k. first_chunks 2 k us) h ∙ ap (λ ks. first_chunks 2 n ks) g

      pub args_there : true ≡ list_all (λ w. ltb (get_or w 1 0) 2) vs → Ended ws (many read_a n (drop i ws)) (Some (i + 2 * n))
      args_there h = many_there Arg ws read_a 2 marked marked_end marked_big i n l (sym (h ∙ ap (λ ks. list_all (λ w. ltb (get_or w 1 0) 2) ks) cuts ∙ same_marks i n l))

      pub args_big : false ≡ list_all (λ w. ltb (get_or w 1 0) 2) vs → Ended ws (many read_a n (drop i ws)) None
      args_big h = many_unlike Arg ws read_a 2 marked marked_end marked_big i n l (sym (h ∙ ap (λ ks. list_all (λ w. ltb (get_or w 1 0) 2) ks) cuts ∙ same_marks i n l))

-- expressions
pub no_fuel_e : (ws us : List ℕ) (d : ℕ) → d ≡ 0 → Ended ws (read_e d us) None
no_fuel_e ws us d e = rw e tt

module _ (ws : List ℕ) (i d : ℕ) (l : 0 < d) where
  read_e_by : read_e d (drop i ws) ≡ chain (node_of (drop i ws)) (λ h us. chain (many (λ vs. read_e (d - 1) vs) (node_shape h).exprs us) (λ es vs. Some (make_e h es, vs)))
  read_e_by = by d l
    where
      by : (k : ℕ) → 0 < k → read_e k (drop i ws) ≡ chain (node_of (drop i ws)) (λ h us. chain (many (λ vs. read_e (k - 1) vs) (node_shape h).exprs us) (λ es vs. Some (make_e h es, vs)))
      by zero h = absurd (omega arith)
      by (suc k) h = let e : suc k - 1 ≡ k = omega arith in rw e

  pub no_node : NodeAt ws i None → Ended ws (read_e d (drop i ws)) None
  no_node h = rw (read_e_by, h) tt

  pub by_node : (h : Expression) → NodeAt ws i (Some h) → (sh : Shape) → sh ≡ node_shape h → (o : Option ℕ) → Ended ws (many (λ vs. read_e (d - 1) vs) sh.exprs (drop (i + sh.words) ws)) o → Ended ws (read_e d (drop i ws)) o
  by_node h is sh e o k =
      rw (read_e_by, is.0) (made_end ws (many (λ vs. read_e (d - 1) vs) (node_shape h).exprs (drop (i + (node_shape h).words) ws)) (λ es. make_e h es) o
      (subst (λ (s : Shape). Ended ws (many (λ vs. read_e (d - 1) vs) s.exprs (drop (i + s.words) ws)) o) e k))

-- statements
pub no_fuel_s : (ws us : List ℕ) (d : ℕ) → d ≡ 0 → Ended ws (read_s d us) None
no_fuel_s ws us d e = rw e tt

module _ (ws : List ℕ) (i d : ℕ) (l : 0 < d) where
  read_s_by : read_s d (drop i ws) ≡ chain (head_of (drop i ws)) (λ h us. chain (parts (λ vs. read_e (d - 1) vs) (λ vs. read_s (d - 1) vs) h us) (λ v vs. Some (make h v, vs)))
  read_s_by = by d l
    where
      by : (k : ℕ) → 0 < k → read_s k (drop i ws) ≡ chain (head_of (drop i ws)) (λ h us. chain (parts (λ vs. read_e (k - 1) vs) (λ vs. read_s (k - 1) vs) h us) (λ v vs. Some (make h v, vs)))
      by zero h = absurd (omega arith)
      by (suc k) h = let e : suc k - 1 ≡ k = omega arith in rw e

  pub no_head : HeadAt ws i None → Ended ws (read_s d (drop i ws)) None
  no_head h = rw (read_s_by, h) tt

  module _ (h : Statement) (is : HeadAt ws i (Some h)) (sh : Shape) (e : sh ≡ head_shape h) where
    by_parts : (o : Option ℕ) → Ended ws (parts (λ vs. read_e (d - 1) vs) (λ vs. read_s (d - 1) vs) h (drop (i + (head_shape h).words) ws)) o → Ended ws (read_s d (drop i ws)) o
    by_parts o k = rw (read_s_by, is.0) (made_end ws (parts (λ vs. read_e (d - 1) vs) (λ vs. read_s (d - 1) vs) h (drop (i + (head_shape h).words) ws)) (λ v. make h v) o k)

    exprs_at : (o : Option ℕ) → Ended ws (many (λ vs. read_e (d - 1) vs) sh.exprs (drop (i + sh.words) ws)) o → Ended ws (many (λ vs. read_e (d - 1) vs) (head_shape h).exprs (drop (i + (head_shape h).words) ws)) o
    exprs_at o k = subst (λ (s : Shape). Ended ws (many (λ vs. read_e (d - 1) vs) s.exprs (drop (i + s.words) ws)) o) e k

    pub no_exprs : Ended ws (many (λ vs. read_e (d - 1) vs) sh.exprs (drop (i + sh.words) ws)) None → Ended ws (read_s d (drop i ws)) None
    no_exprs k = by_parts None (chain_none ws (many (λ vs. read_e (d - 1) vs) (head_shape h).exprs (drop (i + (head_shape h).words) ws)) _ (exprs_at None k))

    module _ (j : ℕ) (ej : Ended ws (many (λ vs. read_e (d - 1) vs) sh.exprs (drop (i + sh.words) ws)) (Some j)) where
      pub no_args : Ended ws (many read_a sh.args (drop j ws)) None → Ended ws (read_s d (drop i ws)) None
      no_args k =
          by_parts None (chain_some ws (many (λ vs. read_e (d - 1) vs) (head_shape h).exprs (drop (i + (head_shape h).words) ws)) _ j None (exprs_at (Some j) ej)
          (λ es. chain_none ws (many read_a (head_shape h).args (drop j ws)) _ (subst (λ (s : Shape). Ended ws (many read_a s.args (drop j ws)) None) e k)))

      pub by_subs : (m : ℕ) (o : Option ℕ) → Ended ws (many read_a sh.args (drop j ws)) (Some m) → Ended ws (many (λ vs. read_s (d - 1) vs) sh.subs (drop m ws)) o → Ended ws (read_s d (drop i ws)) o
      by_subs m o em k =
          by_parts o (chain_some ws (many (λ vs. read_e (d - 1) vs) (head_shape h).exprs (drop (i + (head_shape h).words) ws)) _ j o (exprs_at (Some j) ej)
          (λ es. chain_some ws (many read_a (head_shape h).args (drop j ws)) _ m o (subst (λ (s : Shape). Ended ws (many read_a s.args (drop j ws)) (Some m)) e em)
          (λ as₁. made_end ws (many (λ vs. read_s (d - 1) vs) (head_shape h).subs (drop m ws)) (λ ss. record { es = es; as₁ = as₁; ss = ss }) o (subst (λ (s : Shape). Ended ws (many (λ vs. read_s (d - 1) vs) s.subs (drop m ws)) o) e k))))

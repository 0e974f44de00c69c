-- Where a procedure's signature ends, and the procedure: one lemma for each way out of the code.
-- The words of a signature are read one after the other, each within its limit.
use Rattle.std.proofs.Common.{◌≡◌, ℕ, ◌+◌, ◌<◌, ◌≤◌, min, Bool, true, false, ◌&&◌, leb, List, length, get_or, drop, Some, None, Option, sym, refl, ap, ◌∙◌, subst, inl, inr, arith}
use Rattle.std.proofs.lemmas.List.{at_drop_more, at_drop_all}
use Rattle.std.proofs.lemmas.Bool.{cases_lt, le-leb, lt-leb, and_from, and_left, and_right}
use Rattle.owned.specs.Program.{Sig}
use Rattle.owned.specs.Decode.{Hit, chain, guard, Tuple, many, list_t, word, below1, read_s, read_sig, read_p}
use Rattle.owned.specs.Ends.{Ended, WordUpTo}
use Rattle.owned.proofs.Ends.{chain_none, chain_some, made_end}

-- words within a limit
module _ (ws : List ℕ) (i m : ℕ) where
  -- a word, then a test that it passes just where it is at most m
  module _ {A : Type 0} (test : ℕ → Bool) (k : ℕ → List ℕ → Hit A) where
    pub on_none : ((w : ℕ) → m < w → test w ≡ false) → WordUpTo ws i m None → Ended ws (chain (word (drop i ws)) (λ w us. guard (test w) (k w us))) None
    on_none f h =
        elim (cases_lt i (length ws)) [
          | inl l ↦ subst (λ r. Ended ws (chain r (λ w us. guard (test w) (k w us))) None) (sym (at_drop_more word ws i 0 l)) (subst (λ c. Ended ws (guard c (k (get_or ws i 0) (drop (i + 1) ws))) None) (sym (f (get_or ws i 0) (h l))) tt)
          | inr l ↦ subst (λ r. Ended ws (chain r (λ w us. guard (test w) (k w us))) None) (sym (at_drop_all word ws i l)) tt
        ]

    pub on_some : ((w : ℕ) → w ≤ m → test w ≡ true) → (w : ℕ) → WordUpTo ws i m (Some w) → (o : Option ℕ) → Ended ws (k w (drop (i + 1) ws)) o → Ended ws (chain (word (drop i ws)) (λ w us. guard (test w) (k w us))) o
    on_some f w h o e =
        subst (λ r. Ended ws (chain r (λ w us. guard (test w) (k w us))) o) (sym (at_drop_more word ws i 0 h.0 ∙ ap (λ v. Some (v, drop (i + 1) ws)) (sym h.1)))
        (subst (λ c. Ended ws (guard c (k w (drop (i + 1) ws))) o) (sym (f w h.2)) e)

-- what follows each of the words
abbrev after_args : (m : ℕ) → Tuple ℕ m → (n : ℕ) → List ℕ → Hit Sig
after_args m ks n xs = chain (many (below1 2) n xs) (λ as₁ ys. chain (word ys) (λ r zs. Some (record { kinds = list_t m ks; args = list_t n as₁; result = r }, zs)))

abbrev fewer : ℕ → ℕ → Bool
fewer m n = leb n 8 && leb n m

abbrev after_vars : ℕ → List ℕ → Hit Sig
after_vars m us = chain (many (below1 9) m us) (λ ks vs. chain (word vs) (λ n xs. guard (fewer m n) (after_args m ks n xs)))

few : (m n : ℕ) → n ≤ min 8 m → fewer m n ≡ true
few m n l = and_from (leb n 8) (leb n m) (le-leb n 8 (omega arith)) (le-leb n m (omega arith))

more : (m n : ℕ) → min 8 m < n → fewer m n ≡ false
more m n l = elim (cases_lt 8 n) [ inl h ↦ and_left (leb n 8) (leb n m) (lt-leb n 8 h) | inr h ↦ and_right (leb n 8) (leb n m) (lt-leb n m (omega arith)) ]

module _ (ws : List ℕ) (i : ℕ) where
  pub no_vars : WordUpTo ws i 32 None → Ended ws (read_sig (drop i ws)) None
  no_vars h = on_none ws i 32 (λ m. leb m 32) after_vars (λ m l. lt-leb m 32 l) h

  module _ (m : ℕ) (hm : WordUpTo ws i 32 (Some m)) where
    by_vars : (o : Option ℕ) → Ended ws (after_vars m (drop (i + 1) ws)) o → Ended ws (read_sig (drop i ws)) o
    by_vars o e = on_some ws i 32 (λ m. leb m 32) after_vars (λ m l. le-leb m 32 l) m hm o e

    pub no_kinds : Ended ws (many (below1 9) m (drop (i + 1) ws)) None → Ended ws (read_sig (drop i ws)) None
    no_kinds e = by_vars None (chain_none ws (many (below1 9) m (drop (i + 1) ws)) _ e)

    module _ (j : ℕ) (ej : Ended ws (many (below1 9) m (drop (i + 1) ws)) (Some j)) where
      by_kinds : (o : Option ℕ) → ((ks : Tuple ℕ m) → Ended ws (chain (word (drop j ws)) (λ n xs. guard (fewer m n) (after_args m ks n xs))) o) → Ended ws (read_sig (drop i ws)) o
      by_kinds o f = by_vars o (chain_some ws (many (below1 9) m (drop (i + 1) ws)) _ j o ej f)

      pub no_count : WordUpTo ws j (min 8 m) None → Ended ws (read_sig (drop i ws)) None
      no_count h = by_kinds None (λ ks. on_none ws j (min 8 m) (fewer m) (after_args m ks) (more m) h)

      module _ (n : ℕ) (hn : WordUpTo ws j (min 8 m) (Some n)) where
        by_args : (o : Option ℕ) → ((ks : Tuple ℕ m) → Ended ws (after_args m ks n (drop (j + 1) ws)) o) → Ended ws (read_sig (drop i ws)) o
        by_args o f = by_kinds o (λ ks. on_some ws j (min 8 m) (fewer m) (after_args m ks) (few m) n hn o (f ks))

        pub no_marks : Ended ws (many (below1 2) n (drop (j + 1) ws)) None → Ended ws (read_sig (drop i ws)) None
        no_marks e = by_args None (λ ks. chain_none ws (many (below1 2) n (drop (j + 1) ws)) _ e)

        module _ (r : ℕ) (er : Ended ws (many (below1 2) n (drop (j + 1) ws)) (Some r)) where
          pub no_result : length ws ≤ r → Ended ws (read_sig (drop i ws)) None
          no_result l = by_args None (λ ks. chain_some ws (many (below1 2) n (drop (j + 1) ws)) _ r None er (λ as₁. subst (λ h. Ended {A = Sig} ws (chain h (λ w zs. Some (record { kinds = list_t m ks; args = list_t n as₁; result = w }, zs))) None) (sym (at_drop_all word ws r l)) tt))

          pub by_result : r < length ws → Ended ws (read_sig (drop i ws)) (Some (r + 1))
          by_result l =
              by_args (Some (r + 1)) (λ ks. chain_some ws (many (below1 2) n (drop (j + 1) ws)) _ r (Some (r + 1)) er
              (λ as₁. subst (λ h. Ended {A = Sig} ws (chain h (λ w zs. Some (record { kinds = list_t m ks; args = list_t n as₁; result = w }, zs))) (Some (r + 1))) (sym (at_drop_more word ws r 0 l)) (refl, omega arith)))

-- procedures
module _ (ws : List ℕ) (i : ℕ) where
  pub no_signature : Ended ws (read_sig (drop i ws)) None → Ended ws (read_p (drop i ws)) None
  no_signature e = chain_none ws (read_sig (drop i ws)) _ e

  pub by_body : (j : ℕ) → Ended ws (read_sig (drop i ws)) (Some j) → (o : Option ℕ) → Ended ws (read_s 128 (drop j ws)) o → Ended ws (read_p (drop i ws)) o
  by_body j ej o e = chain_some ws (read_sig (drop i ws)) _ j o ej (λ p. made_end ws (read_s 128 (drop j ws)) (λ b. record { sig = p; body = b }) o e)

-- What is full after a statement, by its head: one group of lemmas for each, a lemma for each way out of the code.
-- A part that was read says where the next part begins, and what is full there.
use Rattle.std.proofs.Common.{◌≡◌, ℕ, ◌+◌, ◌<◌, ◌≤◌, Bool, true, false, ◌&&◌, leb, List, ◌++◌, length, drop, set, Some, None, Option, sym, refl, ap, ◌∙◌, subst, arith}
use Rattle.owned.specs.declared.names.Var.{Var}
use Rattle.owned.specs.declared.varset.VarSet.{VarSet}
use Rattle.owned.specs.declared.decode.Transfer.{Transfer}
use Rattle.owned.specs.declared.decode.Transfer.TheVariants.{Box, Unbox, Look, Fill, Move}
use Rattle.owned.specs.declared.decode.Statement.TheVariants.{Skip, Then, Set, Between, Drop, If, While, Show}
use Rattle.owned.specs.Program.{E, S, Sig, Prog, kind}
use Rattle.owned.specs.Rows.{row_e, row_s}
use Rattle.owned.specs.Kept.{Full, is_num, takes, numbers, keeps, both, when, joined, alike}
use Rattle.owned.specs.Decode.{between}
use Rattle.owned.specs.Ends.{HeadAt, StandsS}
use Rattle.owned.specs.Views.{Seen, full_of, SaysE, ThereE, KeptTo, SaysS, ThereS, allows, leaves}
use Rattle.owned.proofs.Reading.{by_head, parts_there, later}

and_assoc : (a b c : Bool) → (a && (b && c)) ≡ ((a && b) && c)
and_assoc true b c = refl
and_assoc false b c = refl

-- the part that comes next
pub record Next (m : Seen) (i j : ℕ) : Type 0 where
  pub there : ThereS m j
  pub later : i < j
  pub within : j ≤ length m.rows

-- another statement of the same rows
there_at : (m : Seen) (i j : ℕ) → ThereS m i → StandsS m.rows j → ThereS m j
there_at m i j t h = record { g = t.g; placed = t.placed; here = h }

next_s : (m : Seen) (h i : ℕ) (k : VarSet) → ThereS m h → (p : VarSet × ℕ) → SaysS m i k (Some p) → (s t : S) (rest : List ℕ) → drop i m.rows ≡ row_s s ++ (row_s t ++ rest) → Next m i p.1
next_s m h i k z p f s t rest e = let u = f z.g z.placed s (row_s t ++ rest) e in record { there = there_at m h p.1 z (t, rest, u.1); later = u.3; within = u.2 }

next_e : (m : Seen) (h i j : ℕ) → ThereS m h → SaysE m i (Some j) → (e : E) (t : S) (rest : List ℕ) → drop i m.rows ≡ row_e e ++ (row_s t ++ rest) → Next m i j
next_e m h i j z f e t rest q = let u = f e (row_s t ++ rest) q in record { there = there_at m h j z (t, rest, u.1); later = u.3; within = u.2 }

keeps_between : (g : Prog) (p : Sig) (o : Transfer) (x y : ℕ) (c : Full) → keeps g p (between o x y) c ≡ when (allows o p c x y) (Some (leaves o p c x y))
keeps_between g p Box x y c = refl
keeps_between g p Unbox x y c = refl
keeps_between g p Look x y c = refl
keeps_between g p Fill x y c = refl
keeps_between g p Move x y c = refl

module _ (m : Seen) (i : ℕ) (k : VarSet) where
  pub skips : HeadAt m.rows i (Some Skip) → SaysS m i k (Some (k, i + 1))
  skips is = by_head m i Skip is k (Some (k, i + 1)) (λ g p v rest e. (refl, e, is.1, omega arith))

  module _ (o : Transfer) (x y : Var) (is : HeadAt m.rows i (Some (Between o x y))) where
    pub transfers : true ≡ allows o m.sig (full_of m k) x.0 y.0 → (z : VarSet) → full_of m z ≡ leaves o m.sig (full_of m k) x.0 y.0 → SaysS m i k (Some (z, i + 3))
    transfers t z f =
        by_head m i (Between o x y) is k (Some (z, i + 3)) (λ g p v rest e.
        (keeps_between g m.sig o x.0 y.0 (full_of m k) ∙ ap (λ q. when q (Some (leaves o m.sig (full_of m k) x.0 y.0))) (sym t) ∙ ap (λ c. Some c) (sym f), e, is.1, omega arith))

    pub no_transfer : false ≡ allows o m.sig (full_of m k) x.0 y.0 → SaysS m i k None
    no_transfer t =
        by_head m i (Between o x y) is k None (λ g p v rest e. keeps_between g m.sig o x.0 y.0 (full_of m k) ∙ ap (λ q. when q (Some (leaves o m.sig (full_of m k) x.0 y.0))) (sym t))

  module _ (x : Var) (is : HeadAt m.rows i (Some (Drop x))) where
    pub drops : true ≡ (takes m.sig x.0 && leb 1 (kind m.sig x.0)) → (z : VarSet) → full_of m z ≡ set (full_of m k) x.0 false → SaysS m i k (Some (z, i + 2))
    drops t z f = by_head m i (Drop x) is k (Some (z, i + 2)) (λ g p v rest e. (ap (λ q. when q (Some (set (full_of m k) x.0 false))) (sym t) ∙ ap (λ c. Some c) (sym f), e, is.1, omega arith))

    pub no_drop : false ≡ (takes m.sig x.0 && leb 1 (kind m.sig x.0)) → SaysS m i k None
    no_drop t = by_head m i (Drop x) is k None (λ g p v rest e. ap (λ q. when q (Some (set (full_of m k) x.0 false))) (sym t))

  module _ (x : Var) (is : HeadAt m.rows i (Some (Set x))) where
    pub set_there : ThereS m i → ThereE m (i + 2)
    set_there t = let u = parts_there m i (Set x) is t in (u.0.es.0, u.1, u.2)

    -- the test splits into what the code looks at first and the expression
    by_set : (b : Bool) → b ≡ (takes m.sig x.0 && is_num m.sig x.0) → (e : E) → (takes m.sig x.0 && (is_num m.sig x.0 && numbers m.sig e)) ≡ (b && numbers m.sig e)
    by_set b t e = and_assoc (takes m.sig x.0) (is_num m.sig x.0) (numbers m.sig e) ∙ ap (λ q. q && numbers m.sig e) (sym t)

    pub no_store : false ≡ (takes m.sig x.0 && is_num m.sig x.0) → SaysS m i k None
    no_store t = by_head m i (Set x) is k None (λ g p v rest e. ap (λ q. when q (Some (full_of m k))) (by_set false t v.es.0))

    module _ (t : true ≡ (takes m.sig x.0 && is_num m.sig x.0)) where
      pub no_value : SaysE m (i + 2) None → SaysS m i k None
      no_value f = by_head m i (Set x) is k None (λ g p v rest e. ap (λ q. when q (Some (full_of m k))) (by_set true t v.es.0 ∙ f v.es.0 rest e))

      pub sets : (j : ℕ) → SaysE m (i + 2) (Some j) → SaysS m i k (Some (k, j))
      sets j f =
          by_head m i (Set x) is k (Some (k, j)) (λ g p v rest e.
          let u = f v.es.0 rest e in
          (ap (λ q. when q (Some (full_of m k))) (by_set true t v.es.0 ∙ u.0), u.1, u.2, omega (arith, u.3)))

  module _ (is : HeadAt m.rows i (Some Show)) where
    pub show_there : ThereS m i → ThereE m (i + 1)
    show_there t = let u = parts_there m i Show is t in (u.0.es.0, u.1, u.2)

    pub no_show : SaysE m (i + 1) None → SaysS m i k None
    no_show f = by_head m i Show is k None (λ g p v rest e. ap (λ q. when q (Some (full_of m k))) (f v.es.0 rest e))

    pub shows : (j : ℕ) → SaysE m (i + 1) (Some j) → SaysS m i k (Some (k, j))
    shows j f = by_head m i Show is k (Some (k, j)) (λ g p v rest e. let u = f v.es.0 rest e in (ap (λ q. when q (Some (full_of m k))) u.0, u.1, u.2, omega (arith, u.3)))

  module _ (is : HeadAt m.rows i (Some Then)) where
    pub first_there : ThereS m i → ThereS m (i + 1)
    first_there t = let u = parts_there m i Then is t in there_at m i (i + 1) t (u.0.ss.0, row_s u.0.ss.1.0 ++ u.1, u.2)

    pub second_there : (p : VarSet × ℕ) → ThereS m i → SaysS m (i + 1) k (Some p) → Next m (i + 1) p.1
    second_there p t f = let u = parts_there m i Then is t in next_s m i (i + 1) k t p f u.0.ss.0 u.0.ss.1.0 u.1 u.2

    pub no_first : SaysS m (i + 1) k None → SaysS m i k None
    no_first f = by_head m i Then is k None (λ g p v rest e. ap (λ q. both q (λ d. keeps g m.sig v.ss.1.0 d)) (f g p v.ss.0 (row_s v.ss.1.0 ++ rest) e))

    pub sequence : (q : VarSet × ℕ) (o : Option (VarSet × ℕ)) → SaysS m (i + 1) k (Some q) → SaysS m q.1 q.0 o → SaysS m i k o
    sequence q o f h =
        by_head m i Then is k o (λ g p v rest e.
        let u = f g p v.ss.0 (row_s v.ss.1.0 ++ rest) e in
        let w = h g p v.ss.1.0 rest u.1 in
        subst (λ z. KeptTo m i z rest o) (ap (λ z. both z (λ d. keeps g m.sig v.ss.1.0 d)) (sym u.0)) (later m i q.1 _ rest o (omega (arith, u.3)) w))

  module _ (is : HeadAt m.rows i (Some While)) where
    pub turn_there : ThereS m i → ThereE m (i + 1)
    turn_there t = let u = parts_there m i While is t in (u.0.es.0, row_s u.0.ss.0 ++ u.1, u.2)

    pub body_there : (j : ℕ) → ThereS m i → SaysE m (i + 1) (Some j) → Next m (i + 1) j
    body_there j t f = let u = parts_there m i While is t in next_e m i (i + 1) j t f u.0.es.0 u.0.ss.0 u.1 u.2

    pub no_turn : SaysE m (i + 1) None → SaysS m i k None
    no_turn f = by_head m i While is k None (λ g p v rest e. ap (λ q. when q (joined (Some (full_of m k)) (keeps g m.sig v.ss.0 (full_of m k)))) (f v.es.0 (row_s v.ss.0 ++ rest) e))

    module _ (j : ℕ) (f : SaysE m (i + 1) (Some j)) where
      turned : (g : Prog) (e : E) (s : S) (c : Option Full) → numbers m.sig e ≡ true → keeps g m.sig s (full_of m k) ≡ c → keeps g m.sig (S.while e s) (full_of m k) ≡ joined (Some (full_of m k)) c
      turned g e s c h q = rw (h, q)

      pub no_body : SaysS m j k None → SaysS m i k None
      no_body h = by_head m i While is k None (λ g p v rest e. let u = f v.es.0 (row_s v.ss.0 ++ rest) e in turned g v.es.0 v.ss.0 None u.0 (h g p v.ss.0 rest u.1))

      module _ (q : VarSet × ℕ) (h : SaysS m j k (Some q)) where
        pub repeats : true ≡ alike (full_of m k) (full_of m q.0) → SaysS m i k (Some (k, q.1))
        repeats t =
            by_head m i While is k (Some (k, q.1)) (λ g p v rest e.
            let u = f v.es.0 (row_s v.ss.0 ++ rest) e in
            let w = h g p v.ss.0 rest u.1 in
            (turned g v.es.0 v.ss.0 _ u.0 w.0 ∙ ap (λ z. when z (Some (full_of m k))) (sym t), w.1, w.2, omega (arith, w.3, u.3)))

        pub changes : false ≡ alike (full_of m k) (full_of m q.0) → SaysS m i k None
        changes t =
            by_head m i While is k None (λ g p v rest e.
            let u = f v.es.0 (row_s v.ss.0 ++ rest) e in
            let w = h g p v.ss.0 rest u.1 in
            turned g v.es.0 v.ss.0 _ u.0 w.0 ∙ ap (λ z. when z (Some (full_of m k))) (sym t))

  module _ (is : HeadAt m.rows i (Some If)) where
    pub test_there : ThereS m i → ThereE m (i + 1)
    test_there t = let u = parts_there m i If is t in (u.0.es.0, row_s u.0.ss.0 ++ (row_s u.0.ss.1.0 ++ u.1), u.2)

    pub then_there : (j : ℕ) → ThereS m i → SaysE m (i + 1) (Some j) → Next m (i + 1) j
    then_there j t f = let u = parts_there m i If is t in next_e m i (i + 1) j t f u.0.es.0 u.0.ss.0 (row_s u.0.ss.1.0 ++ u.1) u.2

    pub else_there : (j : ℕ) (q : VarSet × ℕ) → ThereS m i → SaysE m (i + 1) (Some j) → SaysS m j k (Some q) → Next m (i + 1) q.1
    else_there j q t f h =
        let u = parts_there m i If is t in
        let w = f u.0.es.0 (row_s u.0.ss.0 ++ (row_s u.0.ss.1.0 ++ u.1)) u.2 in
        let n = next_s m i j k t q h u.0.ss.0 u.0.ss.1.0 u.1 w.1 in
        record { there = n.there; later = omega (arith, n.later, w.3); within = n.within }

    pub no_test : SaysE m (i + 1) None → SaysS m i k None
    no_test f =
        by_head m i If is k None (λ g p v rest e.
        ap (λ q. when q (joined (keeps g m.sig v.ss.0 (full_of m k)) (keeps g m.sig v.ss.1.0 (full_of m k)))) (f v.es.0 (row_s v.ss.0 ++ (row_s v.ss.1.0 ++ rest)) e))

    module _ (j : ℕ) (f : SaysE m (i + 1) (Some j)) where
      tested : (g : Prog) (e : E) (s t : S) (c : Option Full) → numbers m.sig e ≡ true → keeps g m.sig s (full_of m k) ≡ c → keeps g m.sig (S.if e s t) (full_of m k) ≡ joined c (keeps g m.sig t (full_of m k))
      tested g e s t c h q = rw (h, q)

      pub no_then : SaysS m j k None → SaysS m i k None
      no_then h =
          by_head m i If is k None (λ g p v rest e.
          let u = f v.es.0 (row_s v.ss.0 ++ (row_s v.ss.1.0 ++ rest)) e in
          tested g v.es.0 v.ss.0 v.ss.1.0 None u.0 (h g p v.ss.0 (row_s v.ss.1.0 ++ rest) u.1))

      module _ (a : VarSet × ℕ) (h : SaysS m j k (Some a)) where
        pub no_else : SaysS m a.1 k None → SaysS m i k None
        no_else l =
            by_head m i If is k None (λ g p v rest e.
            let u = f v.es.0 (row_s v.ss.0 ++ (row_s v.ss.1.0 ++ rest)) e in
            let w = h g p v.ss.0 (row_s v.ss.1.0 ++ rest) u.1 in
            tested g v.es.0 v.ss.0 v.ss.1.0 _ u.0 w.0 ∙ ap (λ q. joined (Some (full_of m a.0)) q) (l g p v.ss.1.0 rest w.1))

        module _ (z : VarSet × ℕ) (l : SaysS m a.1 k (Some z)) where
          -- both ways are worked out: what is left is to compare
          met : (b : Bool) → b ≡ alike (full_of m a.0) (full_of m z.0) → (o : Option (VarSet × ℕ)) → ((rest : List ℕ) → (drop z.1 m.rows ≡ rest) × (z.1 ≤ length m.rows) × (i < z.1) → KeptTo m i (when b (Some (full_of m a.0))) rest o) → SaysS m i k o
          met b t o r =
              by_head m i If is k o (λ g p v rest e.
              let u = f v.es.0 (row_s v.ss.0 ++ (row_s v.ss.1.0 ++ rest)) e in
              let w = h g p v.ss.0 (row_s v.ss.1.0 ++ rest) u.1 in
              let y = l g p v.ss.1.0 rest w.1 in
              subst (λ q. KeptTo m i q rest o) (sym (tested g v.es.0 v.ss.0 v.ss.1.0 _ u.0 w.0 ∙ ap (λ q. joined (Some (full_of m a.0)) q) y.0 ∙ ap (λ q. when q (Some (full_of m a.0))) (sym t)))
              (r rest (y.1, y.2, omega (arith, w.3, u.3, y.3))))

          pub joins : true ≡ alike (full_of m a.0) (full_of m z.0) → SaysS m i k (Some (a.0, z.1))
          joins t = met true t (Some (a.0, z.1)) (λ rest y. (refl, y.0, y.1, y.2))

          pub differs : false ≡ alike (full_of m a.0) (full_of m z.0) → SaysS m i k None
          differs t = met false t None (λ rest y. refl)

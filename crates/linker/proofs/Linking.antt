-- The second pass: statements whose parts are marked are linked to what follows them, from the outside inwards.
-- A statement in another changes only its own words, so what was linked before it stays, and marks after it too.
use Rattle.std.proofs.Common.{◌≡◌, ℕ, ◌+◌, ◌<◌, List, ◌++◌, length, get_or, drop, Some, sym, refl, ap, ◌∙◌, subst, arith, length-append}
use Rattle.std.proofs.lemmas.List.{get_or-set_same, length-set}
use Rattle.owned.specs.declared.decode.Transfer.TheVariants.{Box, Unbox, Look, Fill, Move}
use Rattle.owned.specs.declared.decode.Statement.{Statement}
use Rattle.owned.specs.declared.decode.Statement.TheVariants.{Skip, Then, Set, Between, Drop, If, While, Call, Show}
use Rattle.owned.specs.Program.{E, S}
use Rattle.owned.specs.Rows.{row_e, row_s}
use Rattle.linker.specs.Code.{Code, AtE, ExprOf, entry, Here, Part, At}
use Rattle.owned.specs.Decode.{Parts, make}
use Rattle.owned.specs.Ends.{HeadAt}
use Rattle.owned.proofs.Reading.{see_s}
use Rattle.linker.specs.Links.{Room, part_rows, Enters, Agree, Within, Marked, StandsMarked, LinkedTo}
use Rattle.owned.specs.Ends.{StandsS}
use Rattle.linker.proofs.Positions.{agree_within, some_words, expr_frame, expr_of_frame, at_frame}
use Rattle.linker.proofs.Changes.{follow_at, inner_at, other_at, agree_trans, within_refl, within_both, within_more, wrote_follow, wrote_inner, wrote_other, marked_frame, marked_expr}
use Rattle.owned.proofs.Reading.{stands_s_within}
use Rattle.linker.proofs.Stands.{past}

pub stands : (c : Code) (i : ℕ) → StandsMarked c i → StandsS c.rows i
stands c i t = (t.0, t.1, t.2)

pub inside_rows : (c : Code) (i : ℕ) → StandsMarked c i → i < length c.rows
inside_rows c i t = stands_s_within c.rows i (stands c i t)

-- a statement without parts
at_leaf : (h : Statement) → (h ≡ Then → ⊥) → (h ≡ If → ⊥) → (h ≡ While → ⊥) → (v : Parts h) (d : Code) (i r : ℕ) → Here d (make h v) i r → At d (make h v) i r
at_leaf Skip t f w v d i r a = a
at_leaf Then t f w v d i r a = absurd (t refl)
at_leaf (Set x) t f w v d i r a = a
at_leaf (Between Box x y) t f w v d i r a = a
at_leaf (Between Unbox x y) t f w v d i r a = a
at_leaf (Between Look x y) t f w v d i r a = a
at_leaf (Between Fill x y) t f w v d i r a = a
at_leaf (Between Move x y) t f w v d i r a = a
at_leaf (Drop x) t f w v d i r a = a
at_leaf If t f w v d i r a = absurd (f refl)
at_leaf While t f w v d i r a = absurd (w refl)
at_leaf (Call x f n) t g w v d i r a = a
at_leaf Show t f w v d i r a = a

pub link_leaf : (c : Code) (i r : ℕ) (h : Statement) → i < length c.follow → HeadAt c.rows i (Some h) → (h ≡ Then → ⊥) → (h ≡ If → ⊥) → (h ≡ While → ⊥) → LinkedTo c (follow_at c i r) i r
link_leaf c i r h l q t f w s rest e m =
    let v = see_s (drop i c.rows) _ h q.0 s rest e in
    let n = some_words s in
    let x = expr_of_frame c (follow_at c i r) s i (i + length (row_s s)) (omega arith) ((wrote_follow c i r).above (i + length (row_s s))) (marked_expr c s i m) in
    let here : Here (follow_at c i r) s i r = record { words = (rest, e); expr = x; room = omega (arith, length-set c.follow i r); next = get_or-set_same c.follow i r 0 l } in (
      subst (λ z. At (follow_at c i r) z i r) v.1 (at_leaf h t f w v.0 (follow_at c i r) i r (subst (λ z. Here (follow_at c i r) z i r) (sym v.1) here)),
      within_more c (follow_at c i r) i (i + 1) i (i + length (row_s s)) (wrote_follow c i r) (omega arith) (omega arith),
    )

-- two statements in a statement, from one place and another on
record Pair (c : Code) (i : ℕ) (s : S) (rest : List ℕ) (first second : ℕ) : Type 0 where
  pub a : S
  pub b : S
  pub later : i < first
  pub here_a : drop first c.rows ≡ row_s a ++ (row_s b ++ rest)
  pub here_b : drop second c.rows ≡ row_s b ++ rest
  pub middle : second ≡ first + length (row_s a)
  pub last : i + length (row_s s) ≡ second + length (row_s b)
  pub parts : i + length (row_s s) ≡ first + length (part_rows s)
  pub mark_a : Marked c a first
  pub mark_b : Marked c b second

-- what a call for the next part asks
pub record Next (c d : Code) (i j : ℕ) : Type 0 where
  pub there : StandsMarked d j
  pub later : i < j
  pub rows : length d.rows ≡ length c.rows

-- after words at the statement's own place, its two parts are linked
module _ (c c1 : Code) (i first second : ℕ) (w : Within c c1 i (i + 1)) (s : S) (rest : List ℕ) (p : Pair c i s rest first second) where
  first_here : drop first c1.rows ≡ row_s p.a ++ (row_s p.b ++ rest)
  first_here = ap (λ ws. drop first ws) w.below.rows ∙ p.here_a

  first_marked : Marked c1 p.a first
  first_marked = marked_frame c c1 p.a first (agree_within c c1 (i + 1) _ first _ (omega (arith, p.later)) (omega arith) (w.above (first + length (row_s p.a)))) p.mark_a

  first_next : Next c c1 i first
  first_next = record { there = (p.a, row_s p.b ++ rest, first_here, first_marked); later = p.later; rows = ap length w.below.rows }

  module _ (d : Code) (r : ℕ) (l : LinkedTo c1 d first r) where
    linked_a : At d p.a first r × Within c1 d first (first + length (row_s p.a))
    linked_a = l p.a (row_s p.b ++ rest) first_here first_marked

    second_here : drop second d.rows ≡ row_s p.b ++ rest
    second_here = ap (λ ws. drop second ws) (linked_a.1.below.rows ∙ w.below.rows) ∙ p.here_b

    second_marked : Marked d p.b second
    second_marked =
        let e = p.middle in
        marked_frame c1 d p.b second (agree_within c1 d (first + length (row_s p.a)) _ second _ (omega arith) (omega arith) (linked_a.1.above (second + length (row_s p.b))))
        (marked_frame c c1 p.b second (agree_within c c1 (i + 1) _ second _ (omega (arith, p.later)) (omega arith) (w.above (second + length (row_s p.b)))) p.mark_b)

    second_next : Next c d i second
    second_next =
        record {
          there = (p.b, rest, second_here, second_marked);
          later = omega (arith, p.later, p.middle);
          rows = ap length (linked_a.1.below.rows ∙ w.below.rows);
        }

    module _ (g : Code) (k : ℕ) (n : LinkedTo d g second k) where
      linked_b : At g p.b second k × Within d g second (second + length (row_s p.b))
      linked_b = n p.b rest second_here second_marked

      kept_a : At g p.a first r
      kept_a = at_frame d g p.a first r (agree_within d g 0 second first (first + length (row_s p.a)) (omega arith) (omega (arith, p.middle)) linked_b.1.below) linked_a.0

      -- the word at the statement's place is as it was written
      kept_here : Agree c1 g 0 first
      kept_here = agree_trans c1 d g 0 first linked_a.1.below (agree_within d g 0 second 0 first (omega arith) (omega (arith, p.middle)) linked_b.1.below)

      -- and its expression's words too
      kept_expr : ExprOf c s i → ExprOf g s i
      kept_expr = expr_of_frame c g s i first (omega (arith, p.parts)) (agree_trans c c1 g (i + 1) first (w.above first) (agree_within c1 g 0 first (i + 1) first (omega arith) (omega arith) kept_here))

      within_all : Within c g i (i + length (row_s s))
      within_all =
          let e = p.middle in
          let f = p.last in
          let h = p.later in
          within_both c d g i second second (second + length (row_s p.b)) i (i + length (row_s s))
          (within_both c c1 d i (i + 1) first (first + length (row_s p.a)) i second w linked_a.1 (omega arith) (omega arith) (omega arith) (omega arith))
          linked_b.1 (omega arith) (omega arith) (omega arith) (omega arith)

-- a pair
module _ (c : Code) (i : ℕ) (q : HeadAt c.rows i (Some Then)) where
  pair : (s : S) (rest : List ℕ) → drop i c.rows ≡ row_s s ++ rest → Marked c s i → Pair c i s rest (get_or c.inner i 0) (get_or c.other i 0)
  pair s rest e m =
      let v = see_s (drop i c.rows) _ Then q.0 s rest e in
      let a = v.0.ss.0 in
      let b = v.0.ss.1.0 in
      let n = subst (λ z. Marked c z i) (sym v.1) m in
      record {
        a = a;
        b = b;
        later = omega (arith, n.0);
        here_a = ap (λ k. drop k c.rows) n.0 ∙ v.2;
        here_b = ap (λ k. drop k c.rows) n.1 ∙ past c.rows (i + 1) (row_s a) (row_s b ++ rest) v.2;
        middle = n.1 ∙ ap (λ k. k + length (row_s a)) (sym n.0);
        last = omega (arith, ap (λ z. length (row_s z)) v.1, length-append (row_s a) (row_s b), n.1);
        parts = omega (arith, ap (λ z. length (row_s z)) v.1, ap (λ z. length (part_rows z)) v.1, n.0);
        mark_a = subst (λ k. Marked c a k) (sym n.0) n.2;
        mark_b = subst (λ k. Marked c b k) (sym n.1) n.3;
      }

  joined : (s : S) (rest : List ℕ) (e : drop i c.rows ≡ row_s s ++ rest) (m : Marked c s i) (g : Code) (r : ℕ) → At g (pair s rest e m).a (get_or c.inner i 0) (entry (pair s rest e m).b (get_or c.other i 0)) → At g (pair s rest e m).b (get_or c.other i 0) r → At g s i r
  unfolding pair
  joined s rest e m g r x y =
      let v = see_s (drop i c.rows) _ Then q.0 s rest e in
      let a = v.0.ss.0 in
      let b = v.0.ss.1.0 in
      let n = subst (λ z. Marked c z i) (sym v.1) m in
      subst (λ z. At g z i r) v.1 (subst (λ k. At g a (i + 1) (entry b k)) n.1 (subst (λ k. At g a k (entry b (get_or c.other i 0))) n.0 x), subst (λ k. At g b k r) n.1 y)

  pub pair_first : StandsMarked c i → Next c c i (get_or c.inner i 0)
  pair_first t = first_next c c i _ _ (within_refl c i (i + 1)) t.0 t.1 (pair t.0 t.1 t.2 t.3)

  pub pair_other : StandsMarked c i → StandsS c.rows (get_or c.other i 0)
  pair_other t = let p = pair t.0 t.1 t.2 t.3 in (p.b, t.1, p.here_b)

  module _ (d : Code) (middle : ℕ) (en : Enters c.rows (get_or c.other i 0) middle) (l : LinkedTo c d (get_or c.inner i 0) middle) where
    pub pair_second : StandsMarked c i → Next c d i (get_or c.other i 0)
    pair_second t = second_next c c i _ _ (within_refl c i (i + 1)) t.0 t.1 (pair t.0 t.1 t.2 t.3) d middle l

    pub link_pair : (g : Code) (r : ℕ) → LinkedTo d g (get_or c.other i 0) r → LinkedTo c g i r
    link_pair g r n s rest e m =
        let p = pair s rest e m in
        let w = within_refl c i (i + 1) in (
          joined s rest e m g r
              (subst (λ k. At g p.a (get_or c.inner i 0) k) (en p.b rest p.here_b) (kept_a c c i _ _ w s rest p d middle l g r n))
              (linked_b c c i _ _ w s rest p d middle l g r n).0,
          within_all c c i _ _ w s rest p d middle l g r n,
        )

-- the tables with what is written at a loop and at an `if`
abbrev pub loop_at : Code → ℕ → ℕ → ℕ → Code
loop_at c q r x = inner_at (follow_at c q r) q x

abbrev pub branch_at : Code → ℕ → ℕ → ℕ → ℕ → Code
branch_at c q r x y = other_at (loop_at c q r x) q y

wrote_loop : (c : Code) (q r x : ℕ) → Within c (loop_at c q r x) q (q + 1)
wrote_loop c q r x = within_both c (follow_at c q r) (loop_at c q r x) q (q + 1) q (q + 1) q (q + 1) (wrote_follow c q r) (wrote_inner (follow_at c q r) q x) (omega arith) (omega arith) (omega arith) (omega arith)

-- an `if`
module _ (c : Code) (i : ℕ) (q : HeadAt c.rows i (Some If)) where
  branches : (s : S) (rest : List ℕ) → drop i c.rows ≡ row_s s ++ rest → Marked c s i → Pair c i s rest (get_or c.inner i 0) (get_or c.other i 0)
  branches s rest e m =
      let v = see_s (drop i c.rows) _ If q.0 s rest e in
      let x = v.0.es.0 in
      let a = v.0.ss.0 in
      let b = v.0.ss.1.0 in
      let n = subst (λ z. Marked c z i) (sym v.1) m in
      let at_a = past c.rows (i + 1) (row_e x) (row_s a ++ (row_s b ++ rest)) v.2 in
      record {
        a = a;
        b = b;
        later = omega (arith, n.0);
        here_a = ap (λ k. drop k c.rows) n.0 ∙ at_a;
        here_b = ap (λ k. drop k c.rows) n.1 ∙ past c.rows (i + 1 + length (row_e x)) (row_s a) (row_s b ++ rest) at_a;
        middle = n.1 ∙ ap (λ k. k + length (row_s a)) (sym n.0);
        last = omega (arith, ap (λ z. length (row_s z)) v.1, length-append (row_e x) (row_s a ++ row_s b), length-append (row_s a) (row_s b), n.1);
        parts = omega (arith, ap (λ z. length (row_s z)) v.1, ap (λ z. length (part_rows z)) v.1, length-append (row_e x) (row_s a ++ row_s b), n.0);
        mark_a = subst (λ k. Marked c a k) (sym n.0) n.2;
        mark_b = subst (λ k. Marked c b k) (sym n.1) n.3;
      }

  chosen : (s : S) (rest : List ℕ) (e : drop i c.rows ≡ row_s s ++ rest) (m : Marked c s i) (g : Code) (r : ℕ) → Here g s i r → Part g.inner i (branches s rest e m).a (get_or c.inner i 0) → Part g.other i (branches s rest e m).b (get_or c.other i 0) → At g (branches s rest e m).a (get_or c.inner i 0) r → At g (branches s rest e m).b (get_or c.other i 0) r → At g s i r
  unfolding branches
  chosen s rest e m g r h j k x y =
      let v = see_s (drop i c.rows) _ If q.0 s rest e in
      let a = v.0.ss.0 in
      let b = v.0.ss.1.0 in
      let n = subst (λ z. Marked c z i) (sym v.1) m in
      subst (λ z. At g z i r) v.1 (
        subst (λ z. Here g z i r) (sym v.1) h,
        subst (λ z. Part g.inner i a z) n.0 j,
        subst (λ z. Part g.other i b z) n.1 k,
        subst (λ z. At g a z r) n.0 x,
        subst (λ z. At g b z r) n.1 y,
      )

  module _ (r x y : ℕ) where
    wrote_branch : Within c (branch_at c i r x y) i (i + 1)
    wrote_branch =
        within_both c (loop_at c i r x) (branch_at c i r x y) i (i + 1) i (i + 1) i (i + 1) (wrote_loop c i r x) (wrote_other (loop_at c i r x) i y) (omega arith) (omega arith) (omega arith) (omega arith)

    pub branch_first : StandsMarked c i → Next c (branch_at c i r x y) i (get_or c.inner i 0)
    branch_first t = first_next c (branch_at c i r x y) i _ _ wrote_branch t.0 t.1 (branches t.0 t.1 t.2 t.3)

    module _ (d : Code) (l : LinkedTo (branch_at c i r x y) d (get_or c.inner i 0) r) where
      pub branch_second : StandsMarked c i → Next c d i (get_or c.other i 0)
      branch_second t = second_next c (branch_at c i r x y) i _ _ wrote_branch t.0 t.1 (branches t.0 t.1 t.2 t.3) d r l

      pub link_branch : Room c → i < length c.rows → Enters c.rows (get_or c.inner i 0) x → Enters c.rows (get_or c.other i 0) y → (g : Code) → LinkedTo d g (get_or c.other i 0) r → LinkedTo c g i r
      link_branch room within enx eny g n s rest e m =
          let p = branches s rest e m in
          let c1 = branch_at c i r x y in
          let k = kept_here c c1 i _ _ wrote_branch s rest p d r l g r n in (
            chosen s rest e m g r
                (record { words = (rest, ap (λ ws. drop i ws) k.rows ∙ e); expr = kept_expr c c1 i _ _ wrote_branch s rest p d r l g r n (marked_expr c s i m); room = omega (arith, k.follow.long, length-set c.follow i r, room.follow); next = k.follow.each i (omega arith) p.later ∙ get_or-set_same c.follow i r 0 (omega (arith, room.follow)) })
                (record { room = omega (arith, k.inner.long, length-set c.inner i x, room.inner); enters = k.inner.each i (omega arith) p.later ∙ get_or-set_same c.inner i x 0 (omega (arith, room.inner)) ∙ enx p.a (row_s p.b ++ rest) p.here_a })
                (record { room = omega (arith, k.other.long, length-set c.other i y, room.other); enters = k.other.each i (omega arith) p.later ∙ get_or-set_same c.other i y 0 (omega (arith, room.other)) ∙ eny p.b rest p.here_b })
                (kept_a c c1 i _ _ wrote_branch s rest p d r l g r n)
                (linked_b c c1 i _ _ wrote_branch s rest p d r l g r n).0,
            within_all c c1 i _ _ wrote_branch s rest p d r l g r n,
          )

  pub branch_there : StandsMarked c i → StandsS c.rows (get_or c.inner i 0) × StandsS c.rows (get_or c.other i 0)
  branch_there t = let p = branches t.0 t.1 t.2 t.3 in ((p.a, row_s p.b ++ t.1, p.here_a), (p.b, t.1, p.here_b))

-- a loop
module _ (c : Code) (i : ℕ) (q : HeadAt c.rows i (Some While)) where
  -- its body begins at the place that is marked
  record Body (s : S) (rest : List ℕ) : Type 0 where
    pub e : E
    pub a : S
    pub same : S.while e a ≡ s
    pub is : get_or c.inner i 0 ≡ i + 1 + length (row_e e)
    pub here : drop (get_or c.inner i 0) c.rows ≡ row_s a ++ rest
    pub mark : Marked c a (get_or c.inner i 0)
    pub expr : AtE c e (i + 1)

  body : (s : S) (rest : List ℕ) → drop i c.rows ≡ row_s s ++ rest → Marked c s i → Body s rest
  body s rest e m =
      let v = see_s (drop i c.rows) _ While q.0 s rest e in
      let n = subst (λ z. Marked c z i) (sym v.1) m in
      record {
        e = v.0.es.0;
        a = v.0.ss.0;
        same = v.1;
        is = n.0;
        here = ap (λ k. drop k c.rows) n.0 ∙ past c.rows (i + 1) (row_e v.0.es.0) (row_s v.0.ss.0 ++ rest) v.2;
        mark = subst (λ k. Marked c v.0.ss.0 k) (sym n.0) n.1;
        expr = n.2;
      }

  pub body_there : StandsMarked c i → StandsS c.rows (get_or c.inner i 0)
  body_there t = let p = body t.0 t.1 t.2 t.3 in (p.a, t.1, p.here)

  module _ (r x : ℕ) where
    body_marked : (s : S) (rest : List ℕ) (p : Body s rest) → Marked (loop_at c i r x) p.a (get_or c.inner i 0)
    body_marked s rest p =
        marked_frame c (loop_at c i r x) p.a (get_or c.inner i 0) (agree_within c (loop_at c i r x) (i + 1) _ (get_or c.inner i 0) _ (omega (arith, p.is)) (omega arith) ((wrote_loop c i r x).above (get_or c.inner i 0 + length (row_s p.a)))) p.mark

    pub loop_body : StandsMarked c i → Next c (loop_at c i r x) i (get_or c.inner i 0)
    loop_body t =
        let p = body t.0 t.1 t.2 t.3 in
        record { there = (p.a, t.1, p.here, body_marked t.0 t.1 p); later = omega (arith, p.is); rows = refl }

    pub link_loop : (d : Code) → Room c → i < length c.rows → Enters c.rows (get_or c.inner i 0) x → LinkedTo (loop_at c i r x) d (get_or c.inner i 0) i → LinkedTo c d i r
    link_loop d room within enx l s rest e m =
        let p = body s rest e m in
        let u = l p.a rest p.here (body_marked s rest p) in
        let k = u.1.below in
        let b : i < get_or c.inner i 0 = omega (arith, p.is) in
        let before = agree_trans c (loop_at c i r x) d (i + 1) (get_or c.inner i 0) ((wrote_loop c i r x).above (get_or c.inner i 0)) (agree_within (loop_at c i r x) d 0 (get_or c.inner i 0) (i + 1) (get_or c.inner i 0) (omega arith) (omega arith) k) in
        let n = ap (λ z. length (row_s z)) p.same in
        let o = length-append (row_e p.e) (row_s p.a) in (
          subst (λ z. At d z i r) p.same (
            record { words = (rest, ap (λ ws. drop i ws) k.rows ∙ e ∙ ap (λ z. row_s z ++ rest) (sym p.same)); expr = expr_frame c d p.e (i + 1) (subst (λ z. Agree c d (i + 1) z) p.is before) p.expr; room = omega (arith, k.follow.long, length-set c.follow i r, room.follow); next = k.follow.each i (omega arith) b ∙ get_or-set_same c.follow i r 0 (omega (arith, room.follow)) },
            record { room = omega (arith, k.inner.long, length-set c.inner i x, room.inner); enters = k.inner.each i (omega arith) b ∙ get_or-set_same c.inner i x 0 (omega (arith, room.inner)) ∙ enx p.a rest p.here ∙ ap (λ z. entry p.a z) p.is },
            subst (λ z. At d p.a z i) p.is u.0,
          ),
          within_both c (loop_at c i r x) d i (i + 1) (get_or c.inner i 0) (get_or c.inner i 0 + length (row_s p.a)) i (i + length (row_s s)) (wrote_loop c i r x) u.1 (omega arith) (omega arith) (omega arith) (omega (arith, p.is)),
        )

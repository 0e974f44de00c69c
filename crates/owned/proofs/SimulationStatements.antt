-- Each statement that neither calls nor takes a turn, and the end of a procedure, with cells and with trees.
-- Taking, allocating, releasing and putting are simulated one after the other.
use Rattle.std.proofs.Common.{◌≡◌, ℕ, zero, suc, ◌+◌, Bool, true, false, not, List, [], ◌∷◌, ◌++◌, set, Some, None, Option, sym, refl, ap, ◌∙◌, arith}
use Rattle.std.specs.List.{slice_get}
use Rattle.std.proofs.lemmas.Bool.{not-true}
use Rattle.owned.specs.Program.{E, S, Sig, kind, is_lent}
use Rattle.owned.specs.Runs.{Val, n, at, nothing, Cell, free, holds, St, R, fine, value, set_v, set_c, with_cells, held, Took, with_t, Chooser, new_at, stays}
use Rattle.owned.specs.Strict.{freed, or_fault, place, fetched, perform, close_one, closes}
use Rattle.owned.specs.Values
use Rattle.owned.specs.Values.{Tree, weight, of_kind}
use Rattle.owned.specs.Holders.{Owns, OwnsAll, Chosen, Chooses}
use Rattle.owned.proofs.Places.{set_nth}
use Rattle.owned.proofs.Trees.{held_is, frame, refilled, allocated, frees_take, frees_free, frees_fill, free_tree, pull, put, stow, unstow}
use Rattle.owned.proofs.Simulation.{Sim, Simulated, sim_bind, sim_need, sim_guard, sim_box, sim_tree_number, sim_number, same_set, var_there, value_same, place_sim, in_hand, TookSim, take_sim}

module _ (p : Sig) (P : List Cell → Type 0) (ws : List Val) where
  -- a new box, at any free cell
  new_sim : (t : Tree) (v : Val) (s : St) (w : Values.St) (o : Option ℕ) (r : ℕ) → Chosen s.cells o → w.room ≡ r → Sim p (Owns t v P) ws s w → (k : Val → St → R) (k' : Tree → Values.St → Values.R)
      → ((u : Tree) (x : Val) (s' : St) (w' : Values.St) → Sim p (Owns u x P) ws s' w' → Simulated (Sim p P ws) (k x s') (k' u w')) → Simulated (Sim p P ws) (new_at o s v k) (Values.new_at r w t k')
  new_sim t v s w None zero c e i k k' f = refl
  new_sim t v s w None (suc r) c e i k k' f = let z : ⊥ = omega (arith, i.room) in elim z [ ]
  new_sim t v s w (Some a) zero c e i k k' f = let z : ⊥ = omega (arith, i.room, frees_take s.cells a s.made v c) in elim z [ ]
  new_sim t v s w (Some a) (suc r) c e i k k' f =
      f (Tree.box t) (at a s.made) _ _ (record {
        own = stow (Tree.box t) (at a s.made) w.vars s.vars P (set s.cells a (holds s.made v)) (allocated t v (OwnsAll w.vars s.vars P) s.cells a s.made c (unstow t v w.vars s.vars P s.cells i.own));
        same = i.same;
        room = omega (arith, i.room, frees_take s.cells a s.made v c);
        shown = i.shown;
        left = i.left;
      })

  -- what is taken goes on
  took_sim : (s : St) (r : Took Val) (o : Values.Took Tree) (k : Val → St → R) (k' : Tree → Values.St → Values.R) → TookSim p P ws s r o
      → ((t : Tree) (x : Val) (u : St) (w : Values.St) → Sim p (Owns t x P) ws u w → Simulated (Sim p P ws) (k x u) (k' t w)) → Simulated (Sim p P ws) (with_t r k) (Values.with_t o k')
  took_sim s r Values.missing k k' h f = tt
  took_sim s r (Values.took t w) k k' (v, u, e, i, g) f = rw e (f t v u w i)

  module _ (ch : Chooser) (s : St) (w : Values.St) (h : Sim p P ws s w) where
    set_sim : (i : ℕ) (e : E) → Simulated (Sim p P ws) (perform ch p (S.set i e) s) (Values.simple p (S.set i e) w)
    set_sim i e = rw (value_same P s w e h.own) (sim_number (Sim p P ws) (value s e) _ _ (λ m. place_sim p P ws 0 i (Tree.num m) (n m) s w (in_hand p P ws (Tree.num m) (n m) s w (λ ds q. (refl, q)) h)))

    box_sim : Chooses ch → (i j : ℕ) → Simulated (Sim p P ws) (perform ch p (S.box i j) s) (Values.simple p (S.box i j) w)
    box_sim c i j = took_sim s (fetched (kind p j) s j) (Values.taken p (kind p j) w j) _ _ (take_sim p P ws (kind p j) s w j h)
        (λ t x u w' i'. new_sim t x u w' (ch u.made u.cells) w'.room (c u.made u.cells) refl i' _ _ (λ t' x' s' w'' i''. place_sim p P ws (kind p i) i t' x' s' w'' i''))

    move_sim : (i j : ℕ) → Simulated (Sim p P ws) (perform ch p (S.move i j) s) (Values.simple p (S.move i j) w)
    move_sim i j = took_sim s (fetched (kind p j) s j) (Values.taken p (kind p j) w j) _ _ (take_sim p P ws (kind p j) s w j h) (λ t x u w' i'. place_sim p P ws (kind p i) i t x u w' i')

    unbox_sim : (i j : ℕ) → Simulated (Sim p P ws) (perform ch p (S.unbox i j) s) (Values.simple p (S.unbox i j) w)
    unbox_sim i j =
        sim_need (Sim p P ws) _ (slice_get w.vars j) _ (λ u e. sim_box (Sim p P ws) _ u _ (λ t q. sim_guard (Sim p P ws) _ (not (is_lent p j)) _ (λ l. opened t (e ∙ ap Some q) (not-true (is_lent p j) l))))
      where
        opened : (t : Tree) → slice_get w.vars j ≡ Some (Tree.box t) → is_lent p j ≡ false → Simulated (Sim p P ws) (perform ch p (S.unbox i j) s) (Values.into p (kind p i) i t (Values.with_room (Values.set_v w j Tree.bare) (suc w.room)))
        opened t e l =
            let (a, b, v, q, c, o) = pull w.vars s.vars j (Tree.box t) P s.cells e h.own in
            rw (q, held_is s a b v (λ v. place (kind p i) i v (set_v (set_c s a free) j nothing)) c) (place_sim p P ws (kind p i) i t v (set_v (set_c s a free) j nothing) (Values.with_room (Values.set_v w j Tree.bare) (suc w.room)) (record {
              own = stow t v (set w.vars j Tree.bare) (set s.vars j nothing) P (set s.cells a free) o;
              same = same_set p ws s.vars j nothing h.same l;
              room = omega (arith, h.room, frees_free s.cells a b v c);
              shown = h.shown;
              left = h.left;
            }))

    look_sim : (i j : ℕ) → Simulated (Sim p P ws) (perform ch p (S.look i j) s) (Values.simple p (S.look i j) w)
    look_sim i j =
        sim_need (Sim p P ws) _ (slice_get w.vars j) _ (λ u e. sim_box (Sim p P ws) _ u _ (λ t q. sim_tree_number (Sim p P ws) _ t _ (λ m r. seen m (e ∙ ap Some (q ∙ ap Tree.box r)))))
      where
        seen : (m : ℕ) → slice_get w.vars j ≡ Some (Tree.box (Tree.num m)) → Simulated (Sim p P ws) (perform ch p (S.look i j) s) (Values.into p 0 i (Tree.num m) w)
        seen m e =
            let (a, b, v, q, c, (qm, _)) = pull w.vars s.vars j (Tree.box (Tree.num m)) P s.cells e h.own in
            rw (q, held_is s a b v _ c, qm) (place_sim p P ws 0 i (Tree.num m) (n m) s w (in_hand p P ws (Tree.num m) (n m) s w (λ ds q. (refl, q)) h))

    fill_sim : (i j : ℕ) → Simulated (Sim p P ws) (perform ch p (S.fill i j) s) (Values.simple p (S.fill i j) w)
    fill_sim i j = go (Values.taken p (kind p j) w j) (take_sim p P ws (kind p j) s w j h)
      where
        -- the old content is given back while the box's cell still has it
        filled : (t : Tree) (u : Values.St) → TookSim p P ws s (fetched (kind p j) s j) (Values.took t u) → (old : Tree) → slice_get u.vars i ≡ Some (Tree.box old) → of_kind (kind p j) old ≡ true
            → Simulated (Sim p P ws) (perform ch p (S.fill i j) s) (Values.fine (Values.with_room (Values.set_v u i (Tree.box t)) (weight old + u.room)))
        filled t u (v, s', e, h', g) old e' k =
            let (a, b, x, q, c, ow) = pull u.vars s'.vars i (Tree.box old) (Owns t v P) s'.cells e' h'.own in
            let Q : List Cell → Type 0 = OwnsAll (set u.vars i Tree.bare) (set s'.vars i nothing) (Owns t v P) in
            let G = free_tree (kind p j) old x (λ ds. (slice_get ds a ≡ Some (holds b x)) × Q (set ds a free)) s'.cells k (frame old x Q s'.cells a b x c ow) in
            let d = G.does in let q' = sym (g i old e') ∙ q in
            let bx = refilled t v (OwnsAll (set u.vars i Tree.bare) (set s'.vars i nothing) P) G.left a b (holds b x) G.rest.0 (unstow t v (set u.vars i Tree.bare) (set s'.vars i nothing) P (set G.left a free) G.rest.1) in
            let th : slice_get s'.vars i ≡ Some (at a b) = var_there u.vars s'.vars i (Tree.box old) (Owns t v P) s'.cells e' h'.own ∙ ap Some q in (
              set_c (with_cells s' G.left) a (holds b v),
              rw (q', e, held_is s' a b x (λ y. or_fault (freed (kind p j) y s'.cells) (λ cs. held (with_cells s' cs) a b (λ z. fine (set_c (with_cells s' cs) a (holds b v))))) c, d, held_is (with_cells s' G.left) a b x (λ z. fine (set_c (with_cells s' G.left) a (holds b v))) G.rest.0) refl,
              record {
                own = rw (set_nth s'.vars i (at a b) th) at (put u.vars s'.vars i (Tree.box old) (Tree.box t) (at a b) P (set G.left a (holds b v)) e' bx);
                same = h'.same;
                room = omega (arith, h'.room, G.more, frees_fill G.left a b b x v G.rest.0);
                shown = h'.shown;
                left = h'.left;
              },
            )

        go : (o : Values.Took Tree) → TookSim p P ws s (fetched (kind p j) s j) o → Simulated (Sim p P ws) (perform ch p (S.fill i j) s)
            (Values.with_t o (λ t u. Values.need (slice_get u.vars i) (λ b. Values.in_box b (λ old. Values.guard (of_kind (kind p j) old) (Values.fine (Values.with_room (Values.set_v u i (Tree.box t)) (weight old + u.room)))))))
        go Values.missing h' = tt
        go (Values.took t u) h' =
            sim_need (Sim p P ws) _ (slice_get u.vars i) _ (λ b e. sim_box (Sim p P ws) _ b _ (λ old q. sim_guard (Sim p P ws) _ (of_kind (kind p j) old) _ (λ k. filled t u h' old (e ∙ ap Some q) k)))

    drop_sim : (i : ℕ) → Simulated (Sim p P ws) (perform ch p (S.drop i) s) (Values.simple p (S.drop i) w)
    drop_sim i = place_sim p P ws (kind p i) i Tree.bare nothing s w (in_hand p P ws Tree.bare nothing s w (λ ds q. (refl, q)) h)

    show_sim : (e : E) → Simulated (Sim p P ws) (perform ch p (S.show e) s) (Values.simple p (S.show e) w)
    show_sim e = rw (value_same P s w e h.own) (sim_number (Sim p P ws) (value s e) _ _ (λ m. (_, refl, record { own = h.own; same = h.same; room = h.room; shown = ap (λ l. l ++ (m ∷ [])) h.shown; left = h.left })))

    -- all of them
    pub perform_sim : Chooses ch → (a : S) → Simulated (Sim p P ws) (perform ch p a s) (Values.simple p a w)
    perform_sim c S.skip = (s, refl, h)
    perform_sim c (S.then a b) = tt
    perform_sim c (S.set i e) = set_sim i e
    perform_sim c (S.box i j) = box_sim c i j
    perform_sim c (S.unbox i j) = unbox_sim i j
    perform_sim c (S.look i j) = look_sim i j
    perform_sim c (S.fill i j) = fill_sim i j
    perform_sim c (S.move i j) = move_sim i j
    perform_sim c (S.drop i) = drop_sim i
    perform_sim c (S.if e a b) = tt
    perform_sim c (S.while e a) = tt
    perform_sim c (S.call i f as₁) = tt
    perform_sim c (S.show e) = show_sim e

  -- the end of a procedure
  pub closes_sim : (x : ℕ) (ks : List ℕ) (s : St) (w : Values.St) → Sim p P ws s w → Simulated (Sim p P ws) (closes p x ks s) (Values.ends p x ks w)
  closes_sim x [] s w h = (s, refl, h)
  closes_sim x (k ∷ ks) s w h = sim_bind (Sim p P ws) (Sim p P ws) _ (Values.end_one (stays p x) p k x w) _ (λ u. Values.ends p (x + 1) ks u) (go (stays p x)) (λ t u i. closes_sim (x + 1) ks t u i)
    where
      go : (b : Bool) → Simulated (Sim p P ws) (close_one b k x s) (Values.end_one b p k x w)
      go true = (s, refl, h)
      go false = place_sim p P ws k x Tree.bare nothing s w (in_hand p P ws Tree.bare nothing s w (λ ds q. (refl, q)) h)

-- What changes of the tables leave alone: a write at a place changes nothing elsewhere, one change after another changes
-- what either does, and what a statement's words say in the tables stays where these agree.
use Rattle.std.proofs.Common.{ℕ, ◌+◌, ◌≤◌, List, ◌++◌, length, set, refl, ap, ◌∙◌, arith, length-append}
use Rattle.std.proofs.lemmas.List.{length-set, get_or-set_other}
use Rattle.owned.specs.Program.{S}
use Rattle.owned.specs.Rows.{row_e, row_s}
use Rattle.linker.specs.Code.{Code, ExprOf}
use Rattle.linker.specs.declared.tables.Linker.{Linker}
use Rattle.linker.specs.Links.{code, Room, Same, Agree, Within, Marked}
use Rattle.linker.proofs.Positions.{agree_within, expr_frame}

-- the tables with a word written
abbrev pub follow_at : Code → ℕ → ℕ → Code
follow_at c q v = record { rows = c.rows; follow = set c.follow q v; inner = c.inner; other = c.other; procs = c.procs }

abbrev pub inner_at : Code → ℕ → ℕ → Code
inner_at c q v = record { rows = c.rows; follow = c.follow; inner = set c.inner q v; other = c.other; procs = c.procs }

abbrev pub other_at : Code → ℕ → ℕ → Code
other_at c q v = record { rows = c.rows; follow = c.follow; inner = c.inner; other = set c.other q v; procs = c.procs }

same_refl : (xs : List ℕ) (i j : ℕ) → Same xs xs i j
same_refl xs i j = record { long = refl; each = λ k p q. refl }

same_trans : (xs ys zs : List ℕ) (i j : ℕ) → Same xs ys i j → Same ys zs i j → Same xs zs i j
same_trans xs ys zs i j a b = record { long = b.long ∙ a.long; each = λ k p q. b.each k p q ∙ a.each k p q }

same_below : (xs : List ℕ) (q v : ℕ) → Same xs (set xs q v) 0 q
same_below xs q v = record { long = length-set xs q v; each = λ k l h. get_or-set_other xs q k v 0 (λ e. omega arith) }

same_above : (xs : List ℕ) (q v k : ℕ) → Same xs (set xs q v) (q + 1) k
same_above xs q v k = record { long = length-set xs q v; each = λ j l h. get_or-set_other xs q j v 0 (λ e. omega arith) }

pub agree_trans : (c d e : Code) (i j : ℕ) → Agree c d i j → Agree d e i j → Agree c e i j
agree_trans c d e i j a b =
    record {
      rows = b.rows ∙ a.rows;
      follow = same_trans c.follow d.follow e.follow i j a.follow b.follow;
      inner = same_trans c.inner d.inner e.inner i j a.inner b.inner;
      other = same_trans c.other d.other e.other i j a.other b.other;
    }

agree_refl : (c : Code) (i j : ℕ) → Agree c c i j
agree_refl c i j = record { rows = refl; follow = same_refl c.follow i j; inner = same_refl c.inner i j; other = same_refl c.other i j }

pub within_refl : (c : Code) (i j : ℕ) → Within c c i j
within_refl c i j = record { below = agree_refl c 0 i; above = λ k. agree_refl c j k; procs = refl }

-- one change after another, both from a place up to another
pub within_both : (c d e : Code) (i j k l from to : ℕ) → Within c d i j → Within d e k l → from ≤ i → from ≤ k → j ≤ to → l ≤ to → Within c e from to
within_both c d e i j k l from to a b p q r s =
    record {
      below = agree_trans c d e 0 from (agree_within c d 0 i 0 from (omega arith) p a.below) (agree_within d e 0 k 0 from (omega arith) q b.below);
      above = λ n. agree_trans c d e to n (agree_within c d j n to n r (omega arith) (a.above n)) (agree_within d e l n to n s (omega arith) (b.above n));
      procs = b.procs ∙ a.procs;
    }

-- a change, seen from further away
pub within_more : (c d : Code) (i j from to : ℕ) → Within c d i j → from ≤ i → j ≤ to → Within c d from to
within_more c d i j from to w p q = record { below = agree_within c d 0 i 0 from (omega arith) p w.below; above = λ n. agree_within c d j n to n q (omega arith) (w.above n); procs = w.procs }

pub wrote_follow : (c : Code) (q v : ℕ) → Within c (follow_at c q v) q (q + 1)
wrote_follow c q v =
    record {
      below = record { rows = refl; follow = same_below c.follow q v; inner = same_refl c.inner 0 q; other = same_refl c.other 0 q };
      above = λ k. record { rows = refl; follow = same_above c.follow q v k; inner = same_refl c.inner (q + 1) k; other = same_refl c.other (q + 1) k };
      procs = refl;
    }

pub wrote_inner : (c : Code) (q v : ℕ) → Within c (inner_at c q v) q (q + 1)
wrote_inner c q v =
    record {
      below = record { rows = refl; follow = same_refl c.follow 0 q; inner = same_below c.inner q v; other = same_refl c.other 0 q };
      above = λ k. record { rows = refl; follow = same_refl c.follow (q + 1) k; inner = same_above c.inner q v k; other = same_refl c.other (q + 1) k };
      procs = refl;
    }

pub wrote_other : (c : Code) (q v : ℕ) → Within c (other_at c q v) q (q + 1)
wrote_other c q v =
    record {
      below = record { rows = refl; follow = same_refl c.follow 0 q; inner = same_refl c.inner 0 q; other = same_below c.other q v };
      above = λ k. record { rows = refl; follow = same_refl c.follow (q + 1) k; inner = same_refl c.inner (q + 1) k; other = same_above c.other q v k };
      procs = refl;
    }

-- the tables have room while they are filled
pub room_of : (l : Linker) → Room (code l)
room_of l = record { rows = l.short; follow = l.follow_room; inner = l.inner_room; other = l.other_room }

-- the tables stay as long
pub room_stays : (c d : Code) (i j : ℕ) → Within c d i j → Room c → Room d
room_stays c d i j w r =
    let a = w.below in
    let n = ap length a.rows in
    record {
      rows = omega (arith, n, r.rows);
      follow = omega (arith, n, r.follow, a.follow.long);
      inner = omega (arith, n, r.inner, a.inner.long);
      other = omega (arith, n, r.other, a.other.long);
    }

-- marks depend only on the tables at a statement's words
pub marked_frame : (c d : Code) (s : S) (q : ℕ) → Agree c d q (q + length (row_s s)) → Marked c s q → Marked d s q
marked_frame c d S.skip q a m = tt
marked_frame c d (S.then x y) q a (i, o, mx, my) =
    let n = length-append (row_s x) (row_s y) in
    let b : ℕ = q + 1 in (
      a.inner.each q (omega arith) (omega arith) ∙ i,
      a.other.each q (omega arith) (omega arith) ∙ o,
      marked_frame c d x b (agree_within c d q _ b (b + length (row_s x)) (omega arith) (omega arith) a) mx,
      marked_frame c d y (b + length (row_s x)) (agree_within c d q _ (b + length (row_s x)) (b + length (row_s x) + length (row_s y)) (omega arith) (omega arith) a) my,
    )
marked_frame c d (S.set x e) q a m = expr_frame c d e (q + 2) (agree_within c d q _ (q + 2) (q + 2 + length (row_e e)) (omega arith) (omega arith) a) m
marked_frame c d (S.box x y) q a m = tt
marked_frame c d (S.unbox x y) q a m = tt
marked_frame c d (S.look x y) q a m = tt
marked_frame c d (S.fill x y) q a m = tt
marked_frame c d (S.move x y) q a m = tt
marked_frame c d (S.drop x) q a m = tt
marked_frame c d (S.if e x y) q a (i, o, mx, my, h) =
    let n = length-append (row_e e) (row_s x ++ row_s y) in
    let m = length-append (row_s x) (row_s y) in
    let b : ℕ = q + 1 + length (row_e e) in (
      a.inner.each q (omega arith) (omega arith) ∙ i,
      a.other.each q (omega arith) (omega arith) ∙ o,
      marked_frame c d x b (agree_within c d q _ b (b + length (row_s x)) (omega arith) (omega arith) a) mx,
      marked_frame c d y (b + length (row_s x)) (agree_within c d q _ (b + length (row_s x)) (b + length (row_s x) + length (row_s y)) (omega arith) (omega arith) a) my,
      expr_frame c d e (q + 1) (agree_within c d q _ (q + 1) b (omega arith) (omega arith) a) h,
    )
marked_frame c d (S.while e x) q a (i, mx, h) =
    let n = length-append (row_e e) (row_s x) in
    let b : ℕ = q + 1 + length (row_e e) in (
      a.inner.each q (omega arith) (omega arith) ∙ i,
      marked_frame c d x b (agree_within c d q _ b (b + length (row_s x)) (omega arith) (omega arith) a) mx,
      expr_frame c d e (q + 1) (agree_within c d q _ (q + 1) b (omega arith) (omega arith) a) h,
    )
marked_frame c d (S.call x f as₁) q a m = tt
marked_frame c d (S.show e) q a m = expr_frame c d e (q + 1) (agree_within c d q _ (q + 1) (q + 1 + length (row_e e)) (omega arith) (omega arith) a) m

-- a statement that is marked has its expression marked
pub marked_expr : (c : Code) (s : S) (q : ℕ) → Marked c s q → ExprOf c s q
marked_expr c S.skip q m = tt
marked_expr c (S.then x y) q m = tt
marked_expr c (S.set x e) q m = m
marked_expr c (S.box x y) q m = tt
marked_expr c (S.unbox x y) q m = tt
marked_expr c (S.look x y) q m = tt
marked_expr c (S.fill x y) q m = tt
marked_expr c (S.move x y) q m = tt
marked_expr c (S.drop x) q m = tt
marked_expr c (S.if e x y) q m = m.4
marked_expr c (S.while e x) q m = m.2
marked_expr c (S.call x f as₁) q m = tt
marked_expr c (S.show e) q m = m

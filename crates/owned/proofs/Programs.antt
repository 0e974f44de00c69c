-- The decoder of procedures reads just what is written, so rows are the writing of at most one program.
-- A signature is words within limits, one after the other; then the body, then the next procedure.
use Rattle.std.proofs.Common.{◌≡◌, ℕ, zero, suc, ◌≤◌, ◌&&◌, T, ltb, leb, List, [], ◌∷◌, ◌++◌, length, Some, None, Option, sym, refl, ap, ◌∙◌, arith, le→leb, leb→le}
use Rattle.owned.specs.Program.{Sig, Proc, Prog}
use Rattle.owned.specs.Rows.{row_s, row_p, row_ps, deep_s, ok_s, ok_sig, ok_p, ok_ps, below, Rows}
use Rattle.owned.specs.Decode.{Hit, Tuple, many, list_t, word, below1, read_e, read_s, read_sig, read_p, read_ps, onto, before, ExactDecoder}
use Rattle.owned.specs.Says.{OneProgram}
use Rattle.owned.proofs.Chains.{and_t, T_and, Good, bind, guarded, passed, AllT, many_sound, tuple_of, list_tuple, length_list_t, one, word_sound, below_sound, row_list}
use Rattle.owned.proofs.Expressions.{sound_e, complete_e}
use Rattle.owned.proofs.Statements.{OkS, sound_s, complete_s}

below_all : (k n : ℕ) (ts : Tuple ℕ n) → AllT (λ w. T (ltb w k)) n ts → T (below k (list_t n ts))
below_all k zero ts h = tt
below_all k (suc n) ts h = and_t (ltb ts.0 k) (below k (list_t n ts.1)) h.0 (below_all k n ts.1 h.1)

many_list : (k : ℕ) (xs rest : List ℕ) → T (below k xs) → many (below1 k) (length xs) (xs ++ rest) ≡ Some (tuple_of xs, rest)
many_list k [] rest h = refl
many_list k (x ∷ xs) rest h = let p = T_and (ltb x k) (below k xs) h in rw (passed (ltb x k) (Some (x, xs ++ rest)) p.0, many_list k xs rest p.1)

-- a signature's words, before the others
abbrev pub row_sig : Sig → List ℕ → List ℕ
row_sig p rest = length p.kinds ∷ (p.kinds ++ (length p.args ∷ (p.args ++ (p.result ∷ rest))))

-- the parts of `ok_sig`
pub record OkSig (p : Sig) : Type 0 where
  pub kinds : T (leb (length p.kinds) 32)
  pub small : T (below 9 p.kinds)
  pub args : T (leb (length p.args) 8)
  pub fewer : T (leb (length p.args) (length p.kinds))
  pub marks : T (below 2 p.args)

sig_on : (p : Sig) → OkSig p → T (ok_sig p)
sig_on p h = and_t _ _ h.kinds (and_t _ _ h.small (and_t _ _ h.args (and_t _ _ h.fewer h.marks)))

pub sig_off : (p : Sig) → T (ok_sig p) → OkSig p
sig_off p h =
    let a = T_and (leb (length p.kinds) 32) _ h in
    let b = T_and (below 9 p.kinds) _ a.1 in
    let c = T_and (leb (length p.args) 8) _ b.1 in
    let d = T_and (leb (length p.args) (length p.kinds)) _ c.1 in
    record { kinds = a.0; small = b.0; args = c.0; fewer = d.0; marks = d.1 }

sound_sig : (ws : List ℕ) → Good (λ p us. (ws ≡ row_sig p us) × T (ok_sig p)) (read_sig ws)
sound_sig ws =
    bind _ _ (word ws) _ (word_sound ws) (λ m us a. guarded _ (leb m 32) _ (λ t.
    bind _ _ (many (below1 9) m us) _ (many_sound one (λ w. T (ltb w 9)) (below1 9) (below_sound 9) m us) (λ ks vs b.
    bind _ _ (word vs) _ (word_sound vs) (λ n xs c. guarded _ (leb n 8 && leb n m) _ (λ u.
    bind _ _ (many (below1 2) n xs) _ (many_sound one (λ w. T (ltb w 2)) (below1 2) (below_sound 2) n xs) (λ as₁ ys d.
    bind _ _ (word ys) _ (word_sound ys) (λ r zs e. (
      rw (length_list_t ℕ m ks, length_list_t ℕ n as₁) (a.0 ∙ ap (λ l. m ∷ l) (b.0 ∙ row_list m ks vs ∙ ap (λ l. list_t m ks ++ l) (c.0 ∙ ap (λ l. n ∷ l) (d.0 ∙ row_list n as₁ ys ∙ ap (λ l. list_t n as₁ ++ l) e.0)))),
      sig_on (record { kinds = list_t m ks; args = list_t n as₁; result = r }) (record {
        kinds = rw (length_list_t ℕ m ks) t;
        small = below_all 9 m ks b.1;
        args = rw (length_list_t ℕ n as₁) (T_and (leb n 8) (leb n m) u).0;
        fewer = rw (length_list_t ℕ m ks, length_list_t ℕ n as₁) (T_and (leb n 8) (leb n m) u).1;
        marks = below_all 2 n as₁ d.1;
      }),
    ))))))))

complete_sig : (p : Sig) (rest : List ℕ) → T (ok_sig p) → read_sig (row_sig p rest) ≡ Some (p, rest)
complete_sig p rest h =
    let k = sig_off p h in
    rw (
      passed (leb (length p.kinds) 32) _ k.kinds,
      many_list 9 p.kinds (length p.args ∷ (p.args ++ (p.result ∷ rest))) k.small,
      passed (leb (length p.args) 8 && leb (length p.args) (length p.kinds)) _ (and_t _ _ k.args k.fewer),
      many_list 2 p.args (p.result ∷ rest) k.marks,
      list_tuple p.kinds,
      list_tuple p.args,
    )

-- procedures
ok_on : (p : Proc) → T (ok_sig p.sig) → OkS 128 p.body → T (ok_p p)
ok_on p h k = and_t (ok_sig p.sig) _ h (and_t (leb (deep_s p.body) 128) _ (le→leb (deep_s p.body) 128 k.0) k.1)

pub ok_off : (p : Proc) → T (ok_p p) → T (ok_sig p.sig) × OkS 128 p.body
ok_off p h =
    let a = T_and (ok_sig p.sig) _ h in
    let b = T_and (leb (deep_s p.body) 128) (ok_s p.body) a.1 in
    (a.0, (leb→le (deep_s p.body) 128 b.0, b.1))

pub sound_p : (ws : List ℕ) → Good (λ p us. (ws ≡ row_p p us) × T (ok_p p)) (read_p ws)
sound_p ws =
    bind _ _ (read_sig ws) _ (sound_sig ws) (λ p us a.
    bind _ _ (read_s 128 us) _ (sound_s 128 us) (λ s vs b. (a.0 ∙ ap (λ l. row_sig p l) b.0, ok_on (record { sig = p; body = s }) a.1 b.1)))

complete_p : (p : Proc) (rest : List ℕ) → T (ok_p p) → read_p (row_p p rest) ≡ Some (p, rest)
complete_p p rest h = let k = ok_off p h in rw (complete_sig p.sig (row_s p.body ++ rest) k.0, complete_s 128 p.body rest k.1)

abbrev GoodPs : ℕ → List ℕ → Option Prog → Type 0
GoodPs k ws None = Unit {0}
GoodPs k ws (Some g) = (ws ≡ row_ps g) × (length g ≤ k) × T (ok_ps g)

onto_sound : (k : ℕ) (ws us : List ℕ) (p : Proc) (r : Option Prog) → ws ≡ row_p p us → T (ok_p p) → GoodPs k us r → GoodPs (suc k) ws (onto p r)
onto_sound k ws us p None e h g = tt
onto_sound k ws us p (Some ps) e h g = (e ∙ ap (λ l. row_p p l) g.0, omega (arith, g.1), and_t (ok_p p) (ok_ps ps) h g.2)

before_sound : (k : ℕ) (ws : List ℕ) (r : Hit Proc) → Good (λ p us. (ws ≡ row_p p us) × T (ok_p p)) r → ((us : List ℕ) → GoodPs k us (read_ps k us)) → GoodPs (suc k) ws (before r (λ us. read_ps k us))
before_sound k ws None g f = tt
before_sound k ws (Some p) g f = onto_sound k ws p.1 p.0 (read_ps k p.1) g.0 g.1 (f p.1)

pub sound_ps : (k : ℕ) (ws : List ℕ) → GoodPs k ws (read_ps k ws)
sound_ps zero [] = (refl, omega arith, tt)
sound_ps zero (w ∷ ws) = tt
sound_ps (suc k) [] = (refl, omega arith, tt)
sound_ps (suc k) (w ∷ ws) = before_sound k (w ∷ ws) (read_p (w ∷ ws)) (sound_p (w ∷ ws)) (λ us. sound_ps k us)

complete_ps : (k : ℕ) (g : Prog) → length g ≤ k → T (ok_ps g) → read_ps k (row_ps g) ≡ Some g
complete_ps zero [] l h = refl
complete_ps zero (p ∷ ps) l h = absurd (omega arith)
complete_ps (suc k) [] l h = refl
complete_ps (suc k) (p ∷ ps) l h = let q = T_and (ok_p p) (ok_ps ps) h in rw (complete_p p (row_ps ps) q.0, complete_ps k ps (omega arith) q.1)

pub exact_decoder : ExactDecoder
exact_decoder = record {
  expressions = λ d ws e rest. (λ h. rw h at (sound_e d ws), λ h. ap (λ us. read_e d us) h.0 ∙ complete_e d e rest h.1);
  statements = λ d ws s rest. (λ h. let g = rw h at (sound_s d ws) in (g.0, g.1.0, g.1.1), λ h. ap (λ us. read_s d us) h.0 ∙ complete_s d s rest (h.1, h.2));
  programs = λ k ws g. (λ h. rw h at (sound_ps k ws), λ h. ap (λ us. read_ps k us) h.0 ∙ complete_ps k g h.1 h.2);
}

-- the program of rows is what is read
pub read_rows : (s : List ℕ) (g : Prog) → Rows s g → read_ps 64 s ≡ Some g
read_rows s g r =
    let a = T_and (leb (length s) 16384) (leb (length g) 64 && ok_ps g) r.fine in
    let b = T_and (leb (length g) 64) (ok_ps g) a.1 in
    ap (λ us. read_ps 64 us) (sym r.rows) ∙ complete_ps 64 g (leb→le (length g) 64 b.0) b.1

pub rows_read : (s : List ℕ) (g : Prog) → length s ≤ 16384 → read_ps 64 s ≡ Some g → Rows s g
rows_read s g l e =
    let h = rw e at (sound_ps 64 s) in
    record { rows = sym h.0; fine = and_t (leb (length s) 16384) _ (le→leb (length s) 16384 l) (and_t (leb (length g) 64) (ok_ps g) (le→leb (length g) 64 h.1) h.2) }

pub one_program : OneProgram
one_program s g h a b = let e = read_rows s g a in let f = read_rows s h b in cc

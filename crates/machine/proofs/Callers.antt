-- Callers in their frames: they stay as they are while only words above them change.
use Rattle.std.proofs.Common.{◌≡◌, ℕ, ◌+◌, ◌<◌, ◌≤◌, List, [], ◌∷◌, length, get_or, set, ◌∙◌, arith, length-set}
use Rattle.std.proofs.lemmas.List.{get_or-set_same, get_or-set_other}
use Rattle.owned.specs.Machine.{Frame}
use Rattle.linker.specs.Code.{Code}
use Rattle.machine.specs.Represents.{FrameAt, Frames}
use Rattle.machine.proofs.Words.{vars_same}

pub frame_same : (c : Code) (ws us : List ℕ) (b : ℕ) (f : Frame) → b + 40 ≤ length us → ((i : ℕ) → i < b + 40 → get_or us i 0 ≡ get_or ws i 0) → FrameAt c ws b f → FrameAt c us b f
frame_same c ws us b f l s h =
    record {
      pends = rw (s (b + 32) (omega arith)) h.pends;
      singles = h.singles;
      row = rw (s (b + 33) (omega arith)) h.row;
      few = h.few;
      vars = vars_same f.vars ws us b (omega (arith, h.long, h.few)) (λ x q. s (b + x) (omega (arith, h.long, h.few))) h.vars;
      long = h.long;
      dest = s (b + 34) (omega arith) ∙ h.dest;
    }

pub frames_same : (c : Code) (ws us : List ℕ) (b : ℕ) (fs : List Frame) → b ≤ length us → ((i : ℕ) → i < b → get_or us i 0 ≡ get_or ws i 0) → Frames c ws b fs → Frames c us b fs
frames_same c ws us b [] l s h = h
frames_same c ws us b (f ∷ fs) l s h =
    let e = h.1 in
    (h.0, h.1, frame_same c ws us h.0 f (omega arith) (λ i q. s i (omega arith)) h.2, frames_same c ws us h.0 fs (omega arith) (λ i q. s i (omega arith)) h.3)

-- three words written one after the other
module _ (ws : List ℕ) (b x y z : ℕ) (l : b + 40 ≤ length ws) where
  abbrev noted : List ℕ
  noted = set (set (set ws (b + 32) x) (b + 33) y) (b + 34) z

  pub noted_long : length noted ≡ length ws
  noted_long = length-set (set (set ws (b + 32) x) (b + 33) y) (b + 34) z ∙ length-set (set ws (b + 32) x) (b + 33) y ∙ length-set ws (b + 32) x

  pub noted_other : (i : ℕ) → (i ≡ b + 32 → ⊥) → (i ≡ b + 33 → ⊥) → (i ≡ b + 34 → ⊥) → get_or noted i 0 ≡ get_or ws i 0
  noted_other i p q r = get_or-set_other (set (set ws (b + 32) x) (b + 33) y) (b + 34) i z 0 r ∙ get_or-set_other (set ws (b + 32) x) (b + 33) i y 0 q ∙ get_or-set_other ws (b + 32) i x 0 p

  pub noted_first : get_or noted (b + 32) 0 ≡ x
  noted_first = get_or-set_other (set (set ws (b + 32) x) (b + 33) y) (b + 34) (b + 32) z 0 (omega arith) ∙ get_or-set_other (set ws (b + 32) x) (b + 33) (b + 32) y 0 (omega arith) ∙ get_or-set_same ws (b + 32) x 0 (omega arith)

  pub noted_second : get_or noted (b + 33) 0 ≡ y
  noted_second = get_or-set_other (set (set ws (b + 32) x) (b + 33) y) (b + 34) (b + 33) z 0 (omega arith) ∙ get_or-set_same (set ws (b + 32) x) (b + 33) y 0 (omega (arith, length-set ws (b + 32) x))

  pub noted_third : get_or noted (b + 34) 0 ≡ z
  noted_third = get_or-set_same (set (set ws (b + 32) x) (b + 33) y) (b + 34) z 0 (omega (arith, length-set (set ws (b + 32) x) (b + 33) y, length-set ws (b + 32) x))

-- A call by its head: the destination, the procedure that is found, its arguments, and that the destination stays here.
-- Each lemma is a way out of the code; those before it are its hypotheses.
use Rattle.std.proofs.Common.{◌≡◌, ℕ, ◌+◌, ◌*◌, ◌≤◌, Bool, true, false, not, ◌&&◌, ◌||◌, eqb, List, length, get_or, drop, set, Some, None, Option, sym, ap, ◌∙◌, arith}
use Rattle.std.specs.List.{slice_get}
use Rattle.std.specs.List.{list_any}
use Rattle.std.proofs.lemmas.Bool.{not-true, not-false}
use Rattle.owned.specs.declared.names.Var.{Var}
use Rattle.owned.specs.declared.varset.VarSet.{VarSet}
use Rattle.owned.specs.declared.decode.Statement.TheVariants.{Call}
use Rattle.owned.specs.Program.{Arg, S, Sig, Proc, Prog, kind}
use Rattle.owned.specs.Kept.{Full, is_num, takes, both, when, lent_away, hands, called, keeps}
use Rattle.owned.specs.Decode.{list_t}
use Rattle.owned.specs.Ends.{HeadAt, Placed}
use Rattle.owned.specs.Views.{Seen, full_of, KeptTo, SaysS, ThereS, Found, ArgsAt, ThereArgs, args_of, ArgumentsAt, After}
use Rattle.owned.proofs.Chains.{length_list_t}
use Rattle.owned.proofs.Statements.{row_args}
use Rattle.owned.proofs.Reading.{by_head, parts_there}
use Rattle.owned.proofs.Layouts.{placed_past}
use Rattle.owned.proofs.Arguments.{args_past, any_lends, length_args}

module _ (m : Seen) (i : ℕ) (x : Var) (f n : ℕ) (k : VarSet) (is : HeadAt m.rows i (Some (Call x f n))) where
  pub args_there : ThereS m i → ThereArgs m (i + 4) n
  args_there t =
      let u = parts_there m i (Call x f n) is t in
      record { as₁ = list_t n u.0.as₁; rest = u.1; here = (length_list_t Arg n u.0.as₁, u.2 ∙ sym (row_args n u.0.as₁ u.1)); near = is.1 }

  pub args_few : ThereS m i → (us : List (List ℕ)) → ArgumentsAt m (i + 4) n us → length us ≡ n
  args_few t us e = let u = args_there t in sym (length_args us) ∙ ap (λ bs. length bs) (e u.as₁ u.rest u.here) ∙ u.here.0

  by_call : (o : Option (VarSet × ℕ)) → ((g : Prog) → Placed m.rows m.starts g → (as₁ : List Arg) (rest : List ℕ) → ArgsAt m (i + 4) n as₁ rest → KeptTo m i (keeps g m.sig (S.call x.0 f as₁) (full_of m k)) rest o) → SaysS m i k o
  by_call o h = by_head m i (Call x f n) is k o (λ g p v rest e. h g p (list_t n v.as₁) rest (length_list_t Arg n v.as₁, e ∙ sym (row_args n v.as₁ rest)))

  -- what is asked of the procedure that is called
  abbrev asks : List Arg → Sig → Option Full
  asks as₁ q = when (eqb (kind m.sig x.0) (kind q q.result)) (both (hands m.sig q 0 as₁ (full_of m k)) (λ d. when (is_num m.sig x.0 || not (lent_away x.0 as₁)) (Some (set d x.0 true))))

  pub call_untaken : false ≡ takes m.sig x.0 → SaysS m i k None
  call_untaken t = by_call None (λ g p as₁ rest h. ap (λ z. when z (called (slice_get g f) (asks as₁))) (sym t))

  module _ (t : true ≡ takes m.sig x.0) where
    reaches : (g : Prog) (as₁ : List Arg) (o : Option Proc) → slice_get g f ≡ o → keeps g m.sig (S.call x.0 f as₁) (full_of m k) ≡ called o (asks as₁)
    reaches g as₁ o e = ap (λ z. when z (called (slice_get g f) (asks as₁))) (sym t) ∙ ap (λ z. called z (asks as₁)) e

    pub call_missing : length m.starts ≤ f → SaysS m i k None
    call_missing l = by_call None (λ g p as₁ rest h. reaches g as₁ None (placed_past m.rows m.starts g f p l))

    module _ (c : Seen) (v : Found m.rows m.starts f c) where
      meets : (g : Prog) → Placed m.rows m.starts g → (as₁ : List Arg) → keeps g m.sig (S.call x.0 f as₁) (full_of m k) ≡ asks as₁ c.sig
      meets g p as₁ = let s = v.sees g p in reaches g as₁ (Some s.0) s.1 ∙ ap (λ q. asks as₁ q) (sym s.2.sig)

      module _ (y z : ℕ) (ey : y ≡ kind m.sig x.0) (ez : z ≡ kind c.sig c.sig.result) where
        -- the kinds compared
        compared : (b : Bool) → eqb (kind m.sig x.0) (kind c.sig c.sig.result) ≡ b → (g : Prog) → Placed m.rows m.starts g → (as₁ : List Arg)
            → keeps g m.sig (S.call x.0 f as₁) (full_of m k) ≡ when b (both (hands m.sig c.sig 0 as₁ (full_of m k)) (λ d. when (is_num m.sig x.0 || not (lent_away x.0 as₁)) (Some (set d x.0 true))))
        compared b e g p as₁ = meets g p as₁ ∙ ap (λ q. when q (both (hands m.sig c.sig 0 as₁ (full_of m k)) (λ d. when (is_num m.sig x.0 || not (lent_away x.0 as₁)) (Some (set d x.0 true))))) e

        -- the kinds that the code has are those of the rules
        kinds : eqb (kind m.sig x.0) (kind c.sig c.sig.result) ≡ eqb y z
        kinds = λ w. eqb (sym ey w) (sym ez w)

        pub call_unlike : true ≡ not (eqb y z) → SaysS m i k None
        call_unlike l = by_call None (λ g p as₁ rest h. compared false (kinds ∙ not-true (eqb y z) (sym l)) g p as₁)

        module _ (same : false ≡ not (eqb y z)) where
          handed : (w : Option Full) (g : Prog) → Placed m.rows m.starts g → (as₁ : List Arg) → hands m.sig c.sig 0 as₁ (full_of m k) ≡ w
              → keeps g m.sig (S.call x.0 f as₁) (full_of m k) ≡ both w (λ d. when (is_num m.sig x.0 || not (lent_away x.0 as₁)) (Some (set d x.0 true)))
          handed w g p as₁ e = compared true (kinds ∙ not-false (eqb y z) (sym same)) g p as₁ ∙ ap (λ q. both q (λ d. when (is_num m.sig x.0 || not (lent_away x.0 as₁)) (Some (set d x.0 true)))) e

          -- by the words of the arguments
          module _ (us : List (List ℕ)) (the : ArgumentsAt m (i + 4) n us) where
            pub call_unhanded : After m (hands m.sig c.sig 0 (args_of us) (full_of m k)) None → SaysS m i k None
            call_unhanded h = by_call None (λ g p as₁ rest a. handed None g p as₁ (ap (λ bs. hands m.sig c.sig 0 bs (full_of m k)) (sym (the as₁ rest a)) ∙ h))

            module _ (d : VarSet) (h : After m (hands m.sig c.sig 0 (args_of us) (full_of m k)) (Some d)) where
              handed_over : (b : Bool) → b ≡ (is_num m.sig x.0 || not (lent_away x.0 (args_of us))) → (g : Prog) → Placed m.rows m.starts g → (as₁ : List Arg) (rest : List ℕ) → ArgsAt m (i + 4) n as₁ rest
                  → keeps g m.sig (S.call x.0 f as₁) (full_of m k) ≡ when b (Some (set (full_of m d) x.0 true))
              handed_over b l g p as₁ rest a =
                  let e = the as₁ rest a in
                  handed (Some (full_of m d)) g p as₁ (ap (λ bs. hands m.sig c.sig 0 bs (full_of m k)) (sym e) ∙ h)
                  ∙ ap (λ z. when z (Some (set (full_of m d) x.0 true))) (sym (l ∙ ap (λ bs. is_num m.sig x.0 || not (lent_away x.0 bs)) e))

              -- the destination is not lent away
              pub call_lent : false ≡ is_num m.sig x.0 → true ≡ list_any (λ w. eqb (get_or w 1 0) 1 && eqb x.0 (get_or w 0 0)) us → SaysS m i k None
              call_lent n l =
                  by_call None (λ g p as₁ rest a.
                  handed_over false (ap (λ b. not b) (l ∙ any_lends x.0 us) ∙ ap (λ b. b || not (lent_away x.0 (args_of us))) n) g p as₁ rest a)

              module _ (o : VarSet) (e : full_of m o ≡ set (full_of m d) x.0 true) where
                called_well : true ≡ (is_num m.sig x.0 || not (lent_away x.0 (args_of us))) → SaysS m i k (Some (o, i + 4 + 2 * n))
                called_well l =
                    by_call (Some (o, i + 4 + 2 * n)) (λ g p as₁ rest a.
                    let w = args_past m.rows (i + 4) as₁ rest is.1 a.1 in
                    let j : i + 4 + 2 * length as₁ ≡ i + 4 + 2 * n = omega (arith, a.0) in (
                      handed_over true l g p as₁ rest a ∙ ap (λ q. Some q) (sym e),
                      ap (λ q. drop q m.rows) (sym j) ∙ w.0,
                      omega (arith, w.1, j),
                      omega arith,
                    ))

                pub calls_number : true ≡ is_num m.sig x.0 → SaysS m i k (Some (o, i + 4 + 2 * n))
                calls_number n = called_well (ap (λ b. b || not (lent_away x.0 (args_of us))) n)

                pub calls_box : false ≡ is_num m.sig x.0 → false ≡ list_any (λ w. eqb (get_or w 1 0) 1 && eqb x.0 (get_or w 0 0)) us → SaysS m i k (Some (o, i + 4 + 2 * n))
                calls_box n l = called_well (ap (λ b. not b) (l ∙ any_lends x.0 us) ∙ ap (λ b. b || not (lent_away x.0 (args_of us))) n)

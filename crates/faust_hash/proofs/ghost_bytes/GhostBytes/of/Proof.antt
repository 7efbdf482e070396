-- The value has no bytes and owns nothing, so its ghost field may be whatever bytes are picked. By hand, since no proof
-- is generated for code that makes a struct with ghost data.
use Rattle.std.proofs.Common.{◌≡◌, [], ◌∷◌, refl}
use Rattle.std.proofs.raw_atomic.Walks.{proved, leaves}
use mir.Syntax.{a_type, named}
use mir.Val.{Val, vptr, vstruct, vcons, vnil}
use mir.MapTy.{inst_fn}
use base.Fml.{Fml}
use base.Logic.{emp}
use contract.Monad.{fact, fact_i}
use contract.Running.{tables}
use types.Kit.{‵, raw, ◌⊛◌, ◌$◌, ◌∵◌, !, qed, by, keep, split, use0, fjoin}
use types.Part.{agg}
use types.Run.{no_more, and_then, returns, enter}
use types.ByLocal.{alloc_all, pass_all, free_all, look_at, get, sets}
use denote.Builtin.{RefOf}
use denote.Exit.{yes}
use denote.Param.{param, layouts}
use denote.RattleType.{owns}
use denote.Ref.{shr_vals, shr_Tells}
use denote.Shadow.{makes_shadow}
use denote.Signature.{types_at, plain}
use denote.Steps.{nothing}
use denote.Triple.Entry.{alive}
use denote.Triple.Walked.{Stays, stay_dropped, walk_of, Goes-dropped}
use Rattle.faust_hash.specs.contracts.ghost_bytes.GhostBytes.{the_row}
use Rattle.faust_hash.specs.contracts.ghost_bytes.GhostBytes.of as f
use Rattle.faust_hash.proofs.ghost_bytes.GhostBytes.of.Statement.{statement}
use Rattle.faust_hash.proofs.ghost_bytes.GhostBytes.of.Code as code

pub of_spec : {M : Type 1} → statement M
of_spec 𝓤 𝓛 𝓜 𝓡 wired S laws =
    let source = RefOf (0 ∷ []) tt (plain (λ _. param 0 S)) (λ _. tt) in
    let E = f.ended S in
    let fn = inst_fn (layouts (a_type ∷ []) (S, tt)) code.function in
    let c = f.clauses S 𝓛 𝓜.mem 𝓡.returns in
    let 𝓣 = tables 𝓤 𝓛.H 𝓜 𝓡 𝓡.env in
    let stayed : Stays E.signature.params E.kept = (stay_dropped source yes, tt) in
    let W = walk_of 𝓛 E stayed c in
    proved 𝓛 E stayed c 𝓜 𝓡 (Goes-dropped 𝓛 2 source yes (λ κs x w. refl), tt)
    (f.Key.name (layouts (a_type ∷ []) (S, tt))) fn (code.unfolded 𝓤 𝓛.H 𝓜 𝓡 wired (S, tt))
    (λ κs. (shr_vals, tt)) (λ κs. (shr_Tells (named 0) κs.0 (param 0 S), tt)) (λ κs qs bounds a picked are.
    let at : Val = vptr a.0.ref_ptr.0 a.0.ref_ptr.1 in
    let made : Val = vstruct (vcons (vstruct vnil) vnil) in
    let result : the_row.Denot = record { marker = record {}; bytes = picked } in
    let owned : Fml = the_row.own_val result (made ∷ []) in
    let y : W.Ghost = ((κs, qs, bounds, a, (at ∷ [], tt)), picked) in
    let tokens = raw (alive 𝓛 E.signature κs qs) in
    let passed = ‵ (owns (types_at E.signature.params κs) a y.0.4) in
    qed 𝓛 ((tokens ⊛ passed) ∷ raw ((c κs a).requires picked) ∷ []) ∵ split ! $ keep ! (0 ∷ []) $
    enter ! 𝓣.C 𝓣.Λ fn (at ∷ []) (W.post y) $ alloc_all ! (λ l. pass_all ! refl ((tt, tt), tt) $
    -- the marker, and then the struct of it
    sets ! (agg ! (no_more !)) refl (tt, tt) $
    sets ! (agg ! (and_then ! (get ! refl) (no_more !))) refl (tt, (tt, tt)) $
    use0 𝓛 (raw (fact 𝓤 (picked ≡ picked))) (fact_i 𝓤 (picked ≡ picked) (emp 𝓤) refl) $
    use0 𝓛 (‵ owned) (makes_shadow 𝓛 owned ((λ vss. (tt, ((λ uss. (tt, tt)), tt))), tt)
    (((vstruct vnil ∷ [], tt), (refl, ((tt, (refl, tt)), tt))), tt)) $
    -- [nothing is left of `source`; what the result owns; the clause; the tokens]
    nothing ! $ nothing ! $ fjoin ! $ returns ! (look_at ! 0 refl) $ free_all ! refl $ keep ! (3 ∷ 0 ∷ 1 ∷ 2 ∷ []) $
    by ! (leaves 𝓛 E stayed c y made result (tt, tt) (tt, tt))))

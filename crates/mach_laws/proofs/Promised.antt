-- What a run promises, from the laws of its stages and of its state.
use Rattle.std.proofs.Common.{◌≡◌, ℕ, ◌+◌, inl, inr, List, [], ◌∷◌, refl, sym, subst}
use Rattle.std.specs.Prelude.{map as list_map}
use Rattle.mach_types.specs.declared.calls.Event.{Event}
use Rattle.mach_types.specs.declared.calls.Reply.{Reply}
use Rattle.mach_model.specs.State.{State, opening_in}
use Rattle.mach_model.specs.Machine.{RunIn}
use Rattle.mach_laws.specs.Paths.{Stage, PathBy}
use Rattle.mach_laws.specs.JudgedPaths.{JudgedPath}
use Rattle.mach_model.specs.Machine.{Step}
use Rattle.mach_model.specs.Acts.{Acts}
use Rattle.mach_laws.specs.Headline.{Headline}
use Rattle.mach_laws.proofs.Steps.{run_stages, path_lawful, path_told, path_ordered}
use Rattle.mach_types.specs.declared.profiles.Profile.{Profile}

-- what a step may do is what it did
step_acts : (now : ℕ) (old : State) (event : Event) (reply : Reply) (new : State) → Step now old event reply new → Acts now old event reply new
step_acts now old event reply new (inl r) = inl r.declined
step_acts now old event reply new (inr d) = inr d.performed

path_acts : (now : ℕ) (old : State) (path : List Stage) (new : State) → PathBy Step now old path new → PathBy Acts now old path new
path_acts now old [] new is = is
path_acts now old (x ∷ xs) new is = (is.0, step_acts now x.before x.event x.reply x.after is.1, path_acts (now + 1) x.after xs new is.2)

-- the headline over these stages
pub path_headline : (profile : Profile) (events : List Event) (replies : List Reply) (s : State) (stages : List Stage) → JudgedPath profile stages s →
    list_map (λ (x : Stage). x.event) stages ≡ events → list_map (λ (x : Stage). x.reply) stages ≡ replies → (h : Headline profile events replies s) × (h.stages ≡ stages)
path_headline profile events replies s stages path events_are replies_are = (
  record {
    stages = stages;
    path = path_acts 0 (opening_in profile) stages s path;
    events_are = events_are;
    replies_are = replies_are;
    meant = path_told profile stages s path;
    order = path_ordered profile stages s path;
    one_receive = (path_lawful profile stages s path).one_receive;
  },
  refl,
)

pub run_headline : (profile : Profile) (events : List Event) (replies : List Reply) (s : State) → RunIn profile events replies s →
    (h : Headline profile events replies s) × JudgedPath profile h.stages s
run_headline profile events replies s run =
    let x = run_stages 0 (opening_in profile) events replies s run in
    let h = path_headline profile events replies s x.path x.is_path x.events_are x.replies_are in
    (h.0, subst (λ (path : List Stage). JudgedPath profile path s) (sym h.1) x.is_path)

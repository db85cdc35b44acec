-- Formats, kinds of pushes and errors of servers are equal where they are shown alike.
use Rattle.std.proofs.Common.{◌≡◌, Bool, true, ◌&&◌, nat_eq, String, Global, Option, Some, None, option_map, refl, ap, rules, string_bytes}
use Rattle.std.specs.Bool.{Decides}
use Rattle.std.specs.Cmp.{first_so, second_so}
use Rattle.std.specs.Cmp.Lexicographic.{pointwise, bytes_decides}
use Rattle.std.specs.Option.{option_eq}
use Rattle.resp_core.specs.contracts.errors.server_error.ServerErrorPartialEq.TheImpl as error_eq
use Rattle.resp_core.specs.contracts.value.PushKindPartialEq.TheImpl as kind_eq
use Rattle.resp_core.specs.contracts.value.VerbatimFormatPartialEq.TheImpl as format_eq
use Rattle.resp_core.specs.declared.errors.server_error.ServerError.{ServerError}
use Rattle.resp_core.specs.declared.value.PushKind.{PushKind}
use Rattle.resp_core.specs.declared.value.VerbatimFormat.{VerbatimFormat}
use Rattle.resp_core.specs.declared.value.VerbatimFormat.TheVariants as formats
use Rattle.resp_core.specs.Trees.{unknown}
use Rattle.resp_core.specs.View.{error_text, format_view, kind_view}

pub both_true : (b c : Bool) → b ≡ true → c ≡ true → (b && c) ≡ true
both_true b c h k = λ i. h i && k i

details_tell : (a b : Option (String Global)) → Decides (option_eq (λ s t. pointwise nat_eq (string_bytes s) (string_bytes t)) a b) (option_map (λ s. string_bytes s) a ≡ option_map (λ s. string_bytes s) b)
details_tell None None = (λ h. refl, λ e. refl)
details_tell None (Some t) = (λ h. cc, λ e. cc)
details_tell (Some s) None = (λ h. cc, λ e. cc)
details_tell (Some s) (Some t) = let tells = bytes_decides (string_bytes s) (string_bytes t) in (λ h. ap Some (tells.0 h), λ e. let same : string_bytes s ≡ string_bytes t = cc in tells.1 same)

pub errors_tell : (a b : ServerError) → Decides ((error_eq.ghosts).eq a b) (error_text a ≡ error_text b)
errors_tell a b = (
  λ h.
      let code : string_bytes a.code ≡ string_bytes b.code = (bytes_decides (string_bytes a.code) (string_bytes b.code)).0 (first_so _ _ h) in
      let detail : option_map (λ s. string_bytes s) a.detail ≡ option_map (λ s. string_bytes s) b.detail = (details_tell a.detail b.detail).0 (second_so _ _ h) in
      λ i. record { code = code i; detail = detail i },
  λ e.
      both_true _ _ ((bytes_decides (string_bytes a.code) (string_bytes b.code)).1 (ap (λ x. x.code) e)) ((details_tell a.detail b.detail).1 (ap (λ x. x.detail) e)),
)

pub formats_tell : (a b : VerbatimFormat) → Decides ((format_eq.ghosts).eq a b) (format_view a ≡ format_view b)
formats_tell (formats.Unknown s) (formats.Unknown t) = let tells = bytes_decides (string_bytes s) (string_bytes t) in (λ h. ap unknown (tells.0 h), λ e. let same : string_bytes s ≡ string_bytes t = cc in tells.1 same)
formats_tell (formats.Unknown s) formats.Markdown = (λ h. cc, λ e. cc)
formats_tell (formats.Unknown s) formats.Text = (λ h. cc, λ e. cc)
formats_tell formats.Markdown (formats.Unknown t) = (λ h. cc, λ e. cc)
formats_tell formats.Markdown formats.Markdown = (λ h. refl, λ e. refl)
formats_tell formats.Markdown formats.Text = (λ h. cc, λ e. cc)
formats_tell formats.Text (formats.Unknown t) = (λ h. cc, λ e. cc)
formats_tell formats.Text formats.Markdown = (λ h. cc, λ e. cc)
formats_tell formats.Text formats.Text = (λ h. refl, λ e. refl)

pub kinds_tell : (a b : PushKind) → Decides ((kind_eq.ghosts).eq a b) (kind_view a ≡ kind_view b)
kinds_tell a b = search rules

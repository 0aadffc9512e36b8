-- How a kind of need is filed, from what the kind's two traits say of it.
use Rattle.needs.specs.declared.Kind.{Ghosts as KindGhosts}
use Rattle.sheet_file.specs.declared.filed.Filed.{Ghosts}
use Rattle.sheet_file.specs.Layout.{Form, form}

abbrev pub form_of : {K : Type 0} → KindGhosts K → Ghosts K → Form K
form_of k f = form f.BYTE k.TOP f.width f.coded k.levels

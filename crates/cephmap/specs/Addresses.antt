-- Addresses of OSDs (entity_addr_t::encode, entity_addrvec_t::encode), which are passed.
use Rattle.std.specs.Prelude.{ℕ, Err, ◌==◌, if◌then◌else◌}
use Rattle.cephbytes.specs.declared.refused.Refused.TheVariants.{Unknown}
use Rattle.cephbytes.specs.Encoding.{Front, ◌>>=◌, gives, number, skip, section, listed}
use Rattle.cephmap.specs.declared.address.Address.{Address}
use Rattle.cephmap.specs.declared.address.Addresses.{Addresses}

-- an address in a section, of which nothing is read
abbrev pub address_section : Front (Unit {0})
address_section = do
  _ ← section 255
  gives tt

-- an address of a form that is not known
abbrev pub no_address : Front (Unit {0})
no_address bs = Err Unknown

-- an address behind the number of its form: as releases before Nautilus write it, or a section
unfoldable pub address_of : ℕ → Front (Unit {0})
address_of kind = if kind == 0 then skip 135 else (if kind == 1 then address_section else no_address)

-- an address: the number of its form, and what is behind that
unfoldable pub address : Front Address
address = do
  kind ← number 1
  _ ← address_of kind
  gives (record { kind = kind })

-- a list of addresses
abbrev pub several : Front (Unit {0})
several = do
  all ← listed 1 address
  gives tt

-- the addresses of an OSD behind the number of their form: one, or several
unfoldable pub addresses_of : ℕ → Front (Unit {0})
addresses_of kind = if kind == 2 then several else address_of kind

-- the addresses of an OSD: the number of their form, and what is behind that
unfoldable pub addresses : Front Addresses
addresses = do
  kind ← number 1
  _ ← addresses_of kind
  gives (record { kind = kind })

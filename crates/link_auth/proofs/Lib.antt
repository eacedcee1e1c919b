mod HmacLaws
mod CompareLaws
mod RecordLaws
mod StreamLaws
mod ApartLaws
mod MessageLaws
